-- One word more enters memory.
use Rattle.sys_calls.proofs.Common.{◌≡◌, ℕ, suc, ◌+◌, ◌*◌, ◌<◌, [], ◌∷◌, ◌++◌, List, add-one, length, refl, sym, ap, subst, ◌∙◌, arith, IsEntered, Write, can_write_in, double_written, each_byte-same}
use Rattle.block_model.specs.Calls.Random.{next_state, next_word, state_after, words_drawn}
use Rattle.sys_calls.proofs.ByteRanges.{bytes_pass, part_passes}
use Rattle.sys_calls.proofs.KernelWrites.{entered_none, entered_twice}
use Rattle.sys_calls.proofs.RandomWrites.{state_more, words_count, words_more}
use Rattle.sys_calls.proofs.random.write_words.Goals as goal

pub loop-k-init : goal.loop-k-init
loop-k-init c = record { state = refl; entered = entered_none c.args.pages.now; same = λ a. refl; told = c.requires.fresh }

pub write_double-requires-clause-writable : goal.write_double-requires-clause-writable
write_double-requires-clause-writable c =
    let test = can_write_in c.args.pages.now in
    each_byte-same test (can_write_in c.loop-k.pages) c.loop-k.invariant.same (c.args.at + 8 * c.loop-k.k) 8
    ∙ part_passes (8 * c.args.count) test c.args.at (8 * c.loop-k.k) 8 (omega arith) (sym (bytes_pass (8 * c.args.count) test c.args.at) ∙ c.requires.writable)

pub write_double-requires-clause-room : goal.write_double-requires-clause-room
write_double-requires-clause-room c =
    let many = ap length c.loop-k.invariant.told ∙ words_count c.loop-k.k c.args.at c.args.state in
    omega (arith, many)

pub loop-k-preserved : goal.loop-k-preserved
loop-k-preserved c =
    let at = c.args.at in
    let s = c.args.state in
    let k = c.loop-k.k in
    let word : c.next_word-word.result ≡ next_word (state_after k s) = c.next_word-word.ensures ∙ ap next_word c.loop-k.invariant.state in
    let more : words_drawn k at s ++ double_written (at + 8 * k) c.next_word-word.result ∷ [] ≡ words_drawn (k + 1) at s =
    ap (λ (w : ℕ). words_drawn k at s ++ double_written (at + 8 * k) w ∷ []) word ∙ sym (words_more k at s) ∙ ap (λ (n : ℕ). words_drawn n at s) (sym (add-one k)) in
    record {
      state = c.next_state-following.ensures ∙ ap next_state c.loop-k.invariant.state ∙ sym (state_more k s) ∙ ap (λ (n : ℕ). state_after n s) (sym (add-one k));
      entered = subst (IsEntered c.args.pages.now c.write_double.new.pages) more
          (entered_twice c.args.pages.now c.loop-k.pages c.write_double.new.pages (words_drawn k at s) (double_written (at + 8 * k) c.next_word-word.result ∷ [])
          c.loop-k.invariant.entered c.write_double.ensures.entered);
      same = λ a. c.write_double.ensures.same a ∙ c.loop-k.invariant.same a;
      told = c.write_double.ensures.told ∙ ap (λ (ws : List Write). ws ++ double_written (at + 8 * k) c.next_word-word.result ∷ []) c.loop-k.invariant.told ∙ more;
    }
