-- Words, and where bytes are left some of a further one.
use Rattle.sys_calls.proofs.Common.{◌≡◌, ℕ, suc, ◌+◌, ◌-◌, ◌*◌, ◌/◌, ◌%◌, ◌<◌, ◌≤◌, ◌^◌, Bool, true, [], ◌∷◌, ◌++◌, List, add-one, and_parts, append-nil, length, refl, sym, ap, subst, ◌∙◌, arith, IsEntered, Write, can_write_in, each_byte, each_byte-same, each_byte-split}
use Rattle.block_model.specs.Calls.Random.{bytes_drawn, next_state, next_word, random_written, state_after, words_drawn, words_for}
use Rattle.sys_calls.proofs.ByteRanges.{bytes_pass, part_passes}
use Rattle.sys_calls.proofs.KernelWrites.{entered_twice}
use Rattle.sys_calls.proofs.RandomWrites.{state_more, words_count}
use Rattle.sys_calls.proofs.random.write_random.Goals as goal

-- the first bytes of a run
first_part : (test : ℕ → Bool) (at n m : ℕ) → m ≤ n → each_byte test at n ≡ true → each_byte test at m ≡ true
first_part test at n m fits all =
    let whole : n ≡ m + (n - m) = omega arith in
    (and_parts (each_byte test at m) (each_byte test (at + m) (n - m)) (sym (each_byte-split test at m (n - m)) ∙ sym (ap (each_byte test at) whole) ∙ all)).0

pub write_words-past-requires-clause-writable : goal.write_words-past-requires-clause-writable
write_words-past-requires-clause-writable c =
    first_part (can_write_in c.args.pages.now) c.args.at c.args.len (8 * (c.args.len / 8)) (omega arith) c.requires.writable

pub write_bytes-requires-clause-writable : goal.write_bytes-requires-clause-writable
write_bytes-requires-clause-writable c =
    let test = can_write_in c.args.pages.now in
    let words = c.args.len / 8 in
    each_byte-same test (can_write_in c.write_words-past.new.pages) c.write_words-past.ensures.same (c.args.at + 8 * words) (c.args.len % 8)
    ∙ part_passes c.args.len test c.args.at (8 * words) (c.args.len % 8) (omega arith) (sym (bytes_pass c.args.len test c.args.at) ∙ c.requires.writable)

pub write_bytes-requires-clause-room : goal.write_bytes-requires-clause-room
write_bytes-requires-clause-room c =
    let many = ap length c.write_words-past.ensures.told ∙ words_count (c.args.len / 8) c.args.at c.args.state in
    omega (arith, many)

-- no byte is left
whole_words : (len at s : ℕ) → len % 8 ≡ 0 → words_drawn (len / 8) at s ≡ random_written len at s
whole_words len at s none =
    sym (ap (λ (n : ℕ). words_drawn (len / 8) at s ++ bytes_drawn n (at + 8 * (len / 8)) (next_word (state_after (len / 8) s))) none
    ∙ append-nil (words_drawn (len / 8) at s))

pub returns-then-left-eq0 : goal.returns-then-left-eq0
returns-then-left-eq0 c =
    let len = c.args.len in
    let none : len % 8 ≡ 0 = omega arith in
    let same : len / 8 ≡ (len + 7) / 8 = omega arith in
    record {
      state = c.write_words-past.ensures.state ∙ ap (λ (n : ℕ). state_after n c.args.state) same;
      entered = subst (IsEntered c.args.pages.now c.write_words-past.new.pages) (whole_words len c.args.at c.args.state none) c.write_words-past.ensures.entered;
      told = c.write_words-past.ensures.told ∙ whole_words len c.args.at c.args.state none;
    }

-- the bytes of the further word
more_bytes : (len at s past : ℕ) (word : ℕ) → past ≡ state_after (len / 8) s → word ≡ next_word past
    → words_drawn (len / 8) at s ++ bytes_drawn (len % 8) (at + 8 * (len / 8)) word ≡ random_written len at s
more_bytes len at s past word past_is word_is =
    ap (λ (w : ℕ). words_drawn (len / 8) at s ++ bytes_drawn (len % 8) (at + 8 * (len / 8)) w) (word_is ∙ ap next_word past_is)

pub returns : goal.returns
returns c =
    let len = c.args.len in
    let s = c.args.state in
    let some = c.if-left-eq0.false in
    let further : suc (len / 8) ≡ (len + 7) / 8 = omega (arith, some) in
    let same = more_bytes len c.args.at s c.write_words-past.result c.next_word-word.result c.write_words-past.ensures.state c.next_word-word.ensures in
    record {
      state = c.next_state.ensures ∙ ap next_state c.write_words-past.ensures.state ∙ sym (state_more (len / 8) s) ∙ ap (λ (n : ℕ). state_after n s) further;
      entered = subst (IsEntered c.args.pages.now c.write_bytes.new.pages) same
          (entered_twice c.args.pages.now c.write_words-past.new.pages c.write_bytes.new.pages (words_drawn (len / 8) c.args.at s)
          (bytes_drawn (len % 8) (c.args.at + 8 * (len / 8)) c.next_word-word.result) c.write_words-past.ensures.entered c.write_bytes.ensures.entered);
      told = c.write_bytes.ensures.told
          ∙ ap (λ (ws : List Write). ws ++ bytes_drawn (len % 8) (c.args.at + 8 * (len / 8)) c.next_word-word.result) c.write_words-past.ensures.told ∙ same;
    }
