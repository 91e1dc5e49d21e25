-- The first word that can't be written decides, or else the last one.
use Rattle.sys_calls.proofs.Common.{◌≡◌, ℕ, ◌+◌, Bool, true, false, ◌&&◌, refl, sym, ap, ◌∙◌, Map, can_write_in, each_byte, pass_action}
use Rattle.sys_calls.proofs.ActionWords.{three_words}
use Rattle.sys_calls.proofs.signal_calls.can_write_words.Goals as goal

-- the words, by whether the first ones can be written
by_words : (m : Map) (at : ℕ) (b c : Bool) → each_byte (can_write_in m) at 8 ≡ b → each_byte (can_write_in m) (at + 8) 8 ≡ c
    → pass_action (can_write_in m) at ≡ ((b && c) && each_byte (can_write_in m) (at + 16) 8)
by_words m at b c first second =
    three_words (can_write_in m) at ∙ ap (λ x. (x && each_byte (can_write_in m) (at + 8) 8) && each_byte (can_write_in m) (at + 16) 8) first
    ∙ ap (λ x. (b && x) && each_byte (can_write_in m) (at + 16) 8) second

pub returns-then-not-writable : goal.returns-then-not-writable
returns-then-not-writable c =
    sym (by_words c.args.pages.now c.args.at false (each_byte (can_write_in c.args.pages.now) (c.args.at + 8) 8) (sym c.writable.ensures ∙ c.if-not-writable.true) refl)

pub returns-then-not-writable-2 : goal.returns-then-not-writable-2
returns-then-not-writable-2 c =
    sym (by_words c.args.pages.now c.args.at true false (sym c.writable.ensures ∙ c.if-not-writable.false) (sym c.writable-2.ensures ∙ c.if-not-writable-2.true))

pub returns : goal.returns
returns c =
    c.writable-3.ensures ∙ ap (λ (a : ℕ). each_byte (can_write_in c.args.pages.now) a 8) c.requires.last
    ∙ sym (by_words c.args.pages.now c.args.at true true (sym c.writable.ensures ∙ c.if-not-writable.false) (sym c.writable-2.ensures ∙ c.if-not-writable-2.false))
