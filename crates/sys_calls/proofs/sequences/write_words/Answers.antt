-- The four words lie below 2^64, and enter memory.
use Rattle.sys_calls.proofs.Common.{◌≡◌, ℕ, ◌+◌, true, List, [], ◌++◌, length, Ok, Err, Result, sym, ap, subst, ◌∙◌, arith, false≢true, after_writes, Words, are_words_writable, words_entered, words_written, IsEntered, Write, byte_in, can_write_in, IsOk, OnOk}
use Rattle.sys_calls.proofs.AreaWords.{pass_each, words_enter, writable_below}
use Rattle.sys_calls.proofs.sequences.write_words.Goals as goal

-- what fits is appended
appended : {E : Type 0} (r : Result (Unit {0}) E) (old new ws : List Write) → IsOk r → OnOk r (new ≡ old ++ ws) → old ≡ [] → new ≡ ws
appended (Ok u) old new ws fits is none = is ∙ ap (λ (xs : List Write). xs ++ ws) none
appended (Err e) old new ws fits is none = absurd (false≢true fits)

pub words_written-requires : goal.words_written-requires
words_written-requires c =
    writable_below c.args.pages.now (c.args.area.now.at + 24) 3 (pass_each (can_write_in c.args.pages.now) c.args.area.now (sym c.set_cpu.ensures.answer ∙ c.if-not-set_cpu.false)).cid

pub returns-clause-told : goal.returns-clause-told
returns-clause-told c =
    let is = c.try_extend_from_slice.ensures in
    appended c.try_extend_from_slice.result c.args.written.now.items c.try_extend_from_slice.new.self.items c.words_written.result
    (is.variant.1 (omega (arith, ap length c.requires.fresh, ap length c.words_written.ensures))) is.ok c.requires.fresh
    ∙ c.words_written.ensures

pub returns-clause-entered : goal.returns-clause-entered
returns-clause-entered c =
    let m = c.args.pages.now in
    let area = c.args.area.now in
    let words : Words = record { cpu_id_start = c.args.start; cpu_id = c.args.id; node_id = 0; mm_cid = c.args.cid } in
    let all : are_words_writable (can_write_in m) area ≡ true = sym c.set_cpu.ensures.answer ∙ c.if-not-set_cpu.false in
    let bytes : (a : ℕ) → byte_in c.set_cpu.new.mem a ≡ after_writes (words_written area words) (byte_in m) a = λ a.
    c.set_cpu.ensures.bytes a ∙ ap (λ b. after_writes (words_entered b area words) (byte_in m) a) c.if-not-set_cpu.false in
    subst (IsEntered m c.set_cpu.new.mem) (sym (returns-clause-told c)) (words_enter m c.set_cpu.new.mem area words all c.set_cpu.ensures.alike bytes)
