-- Reservations outside the segment: what another process writes to the segment doesn't end them.
use Rattle.std.proofs.lemmas.Bool.{ne_eqb}
use Rattle.mach_types.specs.declared.user_memory.Write.TheVariants.{Zeroed}
use Rattle.rv_inst.specs.Execution.{has_reserved, lost_by}
use Rattle.block_model.proofs.Swaps.Untouched.{lost_swaps}
use Rattle.shared_procs.proofs.Common.{◌≡◌, ◌≢◌, ℕ, ◌+◌, ◌≤◌, Bool, true, false, cond, List, [], ◌∷◌, Option, Some, None, refl, sym, ap, ◌∙◌, arith, AllByRecursion, is_in_segment, is_reserved, lost_after, nat_tests, reserved_at, SEGMENT_AT, SEGMENT_SIZE, Stored, Write}

-- a reservation, where none of its bytes lies in the segment: what is left of it by a write to all of the
-- segment
abbrev pub all_shared : List Write
all_shared = Zeroed SEGMENT_AT SEGMENT_SIZE ∷ []

abbrev pub private : Option ℕ → Option ℕ
private r = lost_after all_shared r

pub private_after : (ws : List Write) (r : Option ℕ) → private (lost_after ws r) ≡ lost_after ws (private r)
private_after ws r = lost_swaps ws all_shared r

pub private_twice : (r : Option ℕ) → private (private r) ≡ private r
private_twice None = refl
private_twice (Some r) = by (has_reserved r SEGMENT_AT SEGMENT_SIZE) refl
  where
    by : (b : Bool) → has_reserved r SEGMENT_AT SEGMENT_SIZE ≡ b → private (cond b None (Some r)) ≡ cond b None (Some r)
    by true is = refl
    by false is = ap (λ c. cond c None (Some r)) is

-- AFTER WRITES TO THE SEGMENT

-- all of a write lies in the segment
abbrev pub IsInside : Write → Type 0
IsInside (Stored w) = (SEGMENT_AT ≤ w.at) × (w.at + w.size ≤ SEGMENT_AT + SEGMENT_SIZE)
IsInside (Zeroed at n) = ⊥

hits : (r at size : ℕ) → SEGMENT_AT ≤ at → at + size ≤ SEGMENT_AT + SEGMENT_SIZE → has_reserved r at size ≡ true → has_reserved r SEGMENT_AT SEGMENT_SIZE ≡ true
hits r at size from to is = grind (arith, nat_tests)

unhit_one : (at size : ℕ) (r : Option ℕ) → SEGMENT_AT ≤ at → at + size ≤ SEGMENT_AT + SEGMENT_SIZE → private (lost_by at size r) ≡ private r
unhit_one at size None from to = refl
unhit_one at size (Some r) from to = by (has_reserved r at size) refl
  where
    by : (b : Bool) → has_reserved r at size ≡ b → private (cond b None (Some r)) ≡ private (Some r)
    by true is = sym (ap (λ c. cond c None (Some r)) (hits r at size from to is))
    by false is = refl

pub unhit : (ws : List Write) (r : Option ℕ) → AllByRecursion IsInside ws → private (lost_after ws r) ≡ private r
unhit [] r all = refl
unhit (Stored w ∷ ws) r all = unhit ws (lost_by w.at w.size r) all.1 ∙ unhit_one w.at w.size r all.0.0 all.0.1
unhit (Zeroed at n ∷ ws) r all = absurd all.0

-- AN SC OUTSIDE THE SEGMENT

apart : (r at : ℕ) → has_reserved r SEGMENT_AT SEGMENT_SIZE ≡ true → is_in_segment at ≡ false → r ≢ reserved_at at
apart r at is out = λ same. grind (arith, nat_tests)

outside : (r : Option ℕ) (at : ℕ) → is_in_segment at ≡ false → is_reserved r at ≡ is_reserved (private r) at
outside None at out = refl
outside (Some r) at out = by (has_reserved r SEGMENT_AT SEGMENT_SIZE) refl
  where
    by : (b : Bool) → has_reserved r SEGMENT_AT SEGMENT_SIZE ≡ b → is_reserved (Some r) at ≡ is_reserved (cond b None (Some r)) at
    by true is = ne_eqb r (reserved_at at) (apart r at is out)
    by false is = refl

pub same_success : (a b : Option ℕ) (at : ℕ) → private a ≡ private b → is_in_segment at ≡ false → is_reserved a at ≡ is_reserved b at
same_success a b at same out = outside a at out ∙ ap (λ r. is_reserved r at) same ∙ sym (outside b at out)
