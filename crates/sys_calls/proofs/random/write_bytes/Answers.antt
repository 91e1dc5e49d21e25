-- One byte more enters memory.
use Rattle.sys_calls.proofs.Common.{◌≡◌, ℕ, suc, ◌+◌, ◌/◌, ◌%◌, ◌<◌, [], ◌∷◌, ◌++◌, List, add-one, append_assoc, append-nil, length, length-append, refl, sym, ap, subst, ◌∙◌, arith, IsEntered, Write, can_write_in, each_byte-same}
use Rattle.block_model.specs.Calls.Answers.{byte_written}
use Rattle.block_model.specs.Calls.Random.{bytes_drawn}
use Rattle.sys_calls.proofs.ByteRanges.{bytes_pass, part_passes}
use Rattle.sys_calls.proofs.KernelWrites.{entered_none, entered_twice}
use Rattle.sys_calls.proofs.RandomWrites.{bytes_count, bytes_more, rest_more, rest_of}
use Rattle.sys_calls.proofs.random.write_bytes.Goals as goal

pub loop-k-init : goal.loop-k-init
loop-k-init c = record { rest = refl; entered = entered_none c.args.pages.now; same = λ a. refl; told = sym (append-nil c.args.written.now.items) }

pub write_byte-requires-clause-writable : goal.write_byte-requires-clause-writable
write_byte-requires-clause-writable c =
    let test = can_write_in c.args.pages.now in
    each_byte-same test (can_write_in c.loop-k.pages) c.loop-k.invariant.same (c.args.at + c.loop-k.k) 1
    ∙ part_passes c.args.count test c.args.at c.loop-k.k 1 (omega arith) (sym (bytes_pass c.args.count test c.args.at) ∙ c.requires.writable)

pub write_byte-requires-clause-room : goal.write_byte-requires-clause-room
write_byte-requires-clause-room c =
    let many = ap length c.loop-k.invariant.told ∙ length-append c.args.written.now.items (bytes_drawn c.loop-k.k c.args.at c.args.word) in
    let bytes = bytes_count c.loop-k.k c.args.at c.args.word in
    omega (arith, many, bytes)

pub loop-k-preserved : goal.loop-k-preserved
loop-k-preserved c =
    let at = c.args.at in
    let w = c.args.word in
    let k = c.loop-k.k in
    let before = c.args.written.now.items in
    let byte : c.loop-k.rest % 256 ≡ rest_of k w % 256 = ap (λ (n : ℕ). n % 256) c.loop-k.invariant.rest in
    let more : bytes_drawn k at w ++ byte_written (at + k) (c.loop-k.rest % 256) ∷ [] ≡ bytes_drawn (k + 1) at w =
    ap (λ (b : ℕ). bytes_drawn k at w ++ byte_written (at + k) b ∷ []) byte ∙ sym (bytes_more k at w) ∙ ap (λ (n : ℕ). bytes_drawn n at w) (sym (add-one k)) in
    record {
      rest = ap (λ (n : ℕ). n / 256) c.loop-k.invariant.rest ∙ sym (rest_more k w) ∙ ap (λ (n : ℕ). rest_of n w) (sym (add-one k));
      entered = subst (IsEntered c.args.pages.now c.write_byte.new.pages) more
          (entered_twice c.args.pages.now c.loop-k.pages c.write_byte.new.pages (bytes_drawn k at w) (byte_written (at + k) (c.loop-k.rest % 256) ∷ [])
          c.loop-k.invariant.entered c.write_byte.ensures.entered);
      same = λ a. c.write_byte.ensures.same a ∙ c.loop-k.invariant.same a;
      told = c.write_byte.ensures.told
          ∙ ap (λ (ws : List Write). ws ++ byte_written (at + k) (c.loop-k.rest % 256) ∷ []) c.loop-k.invariant.told
          ∙ append_assoc before (bytes_drawn k at w) (byte_written (at + k) (c.loop-k.rest % 256) ∷ []) ∙ ap (λ (ws : List Write). before ++ ws) more;
    }
