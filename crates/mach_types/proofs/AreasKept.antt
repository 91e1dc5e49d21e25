-- Which thread has which area after one registered or unregistered; and that two readings of memory with the same bytes name the same.
use Rattle.std.proofs.Common.{◌≡◌, ◌≢◌, ℕ, Bool, List, find, Option, Some, None, refl, ap, ◌∙◌}
use Rattle.std.specs.Option.{option_map}
use Rattle.mach_types.specs.Kernel.Areas.{area_of, interruption, is_area_of, named, with_area, without_area}
use Rattle.mach_types.specs.declared.sequences.Area.{Area}
use Rattle.mach_types.proofs.Lists.{filtered_other, filtered_same, found_at_end, not_at_end}
use Rattle.mach_types.proofs.Times.{eqb_other, eqb_same}

none_found : (o : Option (ℕ × Area)) → option_map (λ pair. pair.1) o ≡ None → o ≡ None
none_found None e = refl
none_found (Some pair) e = cc

pub area_of-with_area_same : (t : ℕ) (area : Area) (areas : List (ℕ × Area)) → area_of t areas ≡ None → area_of t (with_area t area areas) ≡ Some area
area_of-with_area_same t area areas none =
    ap (option_map (λ (pair : ℕ × Area). pair.1)) (found_at_end (is_area_of t) areas (t, area) (none_found (find (is_area_of t) areas) none) (eqb_same t))

pub area_of-with_area_other : (t u : ℕ) (area : Area) (areas : List (ℕ × Area)) → u ≢ t → area_of u (with_area t area areas) ≡ area_of u areas
area_of-with_area_other t u area areas other =
    ap (option_map (λ (pair : ℕ × Area). pair.1)) (not_at_end (is_area_of u) areas (t, area) (eqb_other t u other))

pub area_of-without_area_same : (t : ℕ) (areas : List (ℕ × Area)) → area_of t (without_area t areas) ≡ None
area_of-without_area_same t areas = ap (option_map (λ (pair : ℕ × Area). pair.1)) (filtered_same (λ (pair : ℕ × Area). pair.0) t areas)

pub area_of-without_area_other : (t u : ℕ) (areas : List (ℕ × Area)) → u ≢ t → area_of u (without_area t areas) ≡ area_of u areas
area_of-without_area_other t u areas other = ap (option_map (λ (pair : ℕ × Area). pair.1)) (filtered_other (λ (pair : ℕ × Area). pair.0) t u other areas)

pub named-same : (byte byte' : ℕ → Option ℕ) → ((a : ℕ) → byte a ≡ byte' a) → (area : Area) (pc : ℕ) → named byte area pc ≡ named byte' area pc
named-same byte byte' same area pc = ap (λ (b : ℕ → Option ℕ). named b area pc) (λ i a. same a i)

pub interruption-same : (byte byte' : ℕ → Option ℕ) (can_write can_write' : ℕ → Bool) → ((a : ℕ) → byte a ≡ byte' a) → ((a : ℕ) → can_write a ≡ can_write' a)
    → (area : Option Area) (pc : ℕ) → interruption byte can_write area pc ≡ interruption byte' can_write' area pc
interruption-same byte byte' can_write can_write' bytes writable area pc =
    ap (λ (b : ℕ → Option ℕ). interruption b can_write area pc) (λ i a. bytes a i)
    ∙ ap (λ (w : ℕ → Bool). interruption byte' w area pc) (λ i a. writable a i)
