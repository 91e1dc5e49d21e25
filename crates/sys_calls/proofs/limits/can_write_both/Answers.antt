-- The first word that can't be written decides, or else the second one.
use Rattle.sys_calls.proofs.Common.{◌≡◌, ℕ, ◌+◌, Bool, true, false, ◌&&◌, sym, ap, ◌∙◌, Map, can_write_in, each_byte}
use Rattle.sys_calls.specs.Asked.{pass_limits}
use Rattle.sys_calls.proofs.LimitWords.{two_words}
use Rattle.sys_calls.proofs.limits.can_write_both.Goals as goal

by_first : (m : Map) (at : ℕ) (b : Bool) → each_byte (can_write_in m) at 8 ≡ b → pass_limits (can_write_in m) at ≡ (b && each_byte (can_write_in m) (at + 8) 8)
by_first m at b first = two_words (can_write_in m) at ∙ ap (λ x. x && each_byte (can_write_in m) (at + 8) 8) first

pub returns-then-not-writable : goal.returns-then-not-writable
returns-then-not-writable c = sym (by_first c.args.pages.now c.args.at false (sym c.writable.ensures ∙ c.if-not-writable.true))

pub returns : goal.returns
returns c =
    c.writable-2.ensures ∙ ap (λ (a : ℕ). each_byte (can_write_in c.args.pages.now) a 8) c.requires
    ∙ sym (by_first c.args.pages.now c.args.at true (sym c.writable.ensures ∙ c.if-not-writable.false))
