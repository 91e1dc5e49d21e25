-- What each effect does is what its class asks.
use Rattle.std.proofs.Common.{◌≡◌, ℕ, Bool, true, false, [], ◌∷◌, map, length, Some, None, cond, refl, ap, arith}
use Rattle.std.proofs.lemmas.Bool.Decides.{nat_tests}
use Rattle.mach_types.specs.Bytes.{each_byte}
use Rattle.rv_inst.specs.Asked.{OnlyPlainStoresWait, EntersAsAsked, WritesAreAllowed, IsAllowed, place, places}
use Rattle.rv_inst.specs.Class.{conditional_write}
use Rattle.rv_inst.specs.Execution.{Outcome, is_reserved, unless_allowed, unless_aligned}
use Rattle.rv_inst.specs.declared.effects.Effect.TheVariants as effect
use Rattle.rv_inst.proofs.Meanings.{either}

pub waits_plain : OnlyPlainStoresWait
waits_plain view regs pc r (effect.Sc at size value rd) =
    either (λ o. length o.executed ≡ 0) (is_reserved r at) _ _ refl refl
waits_plain view regs pc r other = refl

if_reserved : (at size value : ℕ) (b : Bool) (x y : Outcome) →
    x.entered ≡ record { at = at; size = size; value = value } ∷ [] → y.entered ≡ [] →
    map place (cond b x y).entered ≡ places (cond b (Some (conditional_write at size)) None)
if_reserved at size value true x y first second = ap (map place) first
if_reserved at size value false x y first second = ap (map place) second

pub enters_asked : EntersAsAsked
enters_asked view regs pc r (effect.Sc at size value rd) =
    if_reserved at size value (is_reserved r at) _ _ refl refl
enters_asked view regs pc r other = refl

allowed : (b : Bool) → unless_allowed b ≡ None → b ≡ true
allowed true e = refl
allowed false e = cc

aligned_allowed : (at size : ℕ) (b : Bool) → unless_aligned at size (unless_allowed b) ≡ None → b ≡ true
aligned_allowed at size true e = refl
aligned_allowed at size false e = absurd (grind (arith, nat_tests))

pub writes_allowed : WritesAreAllowed
writes_allowed byte can_write view regs pc r (effect.Store at size value) fine =
    ((allowed (each_byte can_write at size) fine, tt), tt)
writes_allowed byte can_write view regs pc r (effect.Amo op at size value rd) fine =
    (tt, (aligned_allowed at size (each_byte can_write at size) fine, tt))
writes_allowed byte can_write view regs pc r (effect.Sc at size value rd) fine =
    either (IsAllowed can_write) (is_reserved r at) _ _
    (tt, (aligned_allowed at size (each_byte can_write at size) fine, tt)) (tt, tt)
writes_allowed byte can_write view regs pc r other fine = (tt, tt)
