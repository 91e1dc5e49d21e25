-- The second word can be written still.
use Rattle.sys_calls.proofs.Common.{◌≡◌, ℕ, ◌+◌, true, not, ◌||◌, ap, ◌∙◌, Map, can_write_in, each_byte, register, clone_child_settid, clone_parent_settid, has_flag, and_parts, can_write_word}
use Rattle.sys_calls.proofs.cloning.write_numbers.Goals as goal

after : (m m' : Map) (flags at : ℕ) → ((a : ℕ) → can_write_in m' a ≡ can_write_in m a) → (not (has_flag flags clone_child_settid) || each_byte (can_write_in m) at 4) ≡ true
    → (not (has_flag flags clone_child_settid) || each_byte (can_write_in m') at 4) ≡ true
after m m' flags at same e = rw (same at, same (at + 1), same (at + 1 + 1), same (at + 1 + 1 + 1)) e

pub write_if-requires-2-clause-writable : goal.write_if-requires-2-clause-writable
write_if-requires-2-clause-writable c =
    let saved = c.args.saved.now in
    let m = c.args.pages.now in
    let second = (and_parts (can_write_word m saved clone_parent_settid (register saved.file 12)) (can_write_word m saved clone_child_settid (register saved.file 14)) c.requires.words).1 in
    after m c.write_if.new.pages c.argument-flags.result c.argument-2.result c.write_if.ensures.same
    (ap (λ (f : ℕ). not (has_flag f clone_child_settid) || each_byte (can_write_in m) c.argument-2.result 4) c.argument-flags.ensures
    ∙ ap (λ (a : ℕ). not (has_flag (register saved.file 10) clone_child_settid) || each_byte (can_write_in m) a 4) c.argument-2.ensures ∙ second)
