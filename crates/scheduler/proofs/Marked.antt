-- Entries that are marked as rising stay so.
use Rattle.std.proofs.Common.{◌≡◌, ℕ, ◌-◌, ◌<◌, Bool, true, not, ◌&&◌, List, [], ◌∷◌, ◌++◌, length, get_or, map, filter, eqb, ltb, sym, ap, ◌∙◌, subst, arith}
use Rattle.std.specs.List.Sorted.{IsStrictlyIncreasing}
use Rattle.std.specs.Option.{option_map_or}
use Rattle.std.proofs.lemmas.Bool.{and_parts}
use Rattle.std.proofs.lemmas.Bool.Decides.{nat_tests}
use Rattle.std.proofs.lemmas.List.{get_or-map, length-map, map-append}
use Rattle.std.proofs.lemmas.List.Kept.{IsStrictlyIncreasing-filter}
use Rattle.std.proofs.lemmas.Option.{slice_get-get_or}
use Rattle.mach_types.proofs.Laws.{IsStrictlyIncreasing-above, map_filters}
use Rattle.mach_types.specs.Kernel.Scheduling.{is_of, set_if}
use Rattle.scheduler.proofs.Kept.{same_numbers}
use Rattle.scheduler.specs.Entries.{IsMarked, numbers, is_last}

last_number : (t : ℕ) (xs : List (ℕ × ℕ)) → is_last t xs ≡ true → 0 < length xs → get_or (numbers xs) (length (numbers xs) - 1) 0 < t
last_number t xs last some =
    let i : ℕ = length xs - 1 in
    let read = slice_get-get_or xs i (0, 0) (omega arith) in
    let test : ltb (get_or xs i (0, 0)).0 t ≡ true = sym (ap (λ o. option_map_or (λ (entry : ℕ × ℕ). ltb entry.0 t) o true) read) ∙ last in
    let number = get_or-map (λ (entry : ℕ × ℕ). entry.0) xs i (0, 0) 0 (omega arith) in
    let below : (get_or xs i (0, 0)).0 < t = grind (arith, nat_tests) in
    omega (arith, number, below, ap (λ n. get_or (numbers xs) (n - 1) 0) (length-map xs (λ (entry : ℕ × ℕ). entry.0)))

pub marked_add : (marked later : Bool) (t set : ℕ) (xs ys : List (ℕ × ℕ)) → IsMarked marked xs → later ≡ (marked && is_last t xs) → ys ≡ xs ++ (t, set) ∷ [] → IsMarked later ys
marked_add marked later t set xs ys up mark e rises =
    let parts = and_parts marked (is_last t xs) (sym mark ∙ rises) in
    let some : 0 < length (numbers xs) → 0 < length xs = λ lt. omega (arith, lt, length-map xs (λ (entry : ℕ × ℕ). entry.0)) in
    let pushed = IsStrictlyIncreasing-above (numbers xs) t (up parts.0) (λ lt. last_number t xs parts.1 (some lt)) in
    subst IsStrictlyIncreasing (sym (ap numbers e ∙ map-append (λ (entry : ℕ × ℕ). entry.0) xs ((t, set) ∷ []))) pushed

pub marked_change : (marked : Bool) (t set : ℕ) (xs ys : List (ℕ × ℕ)) → IsMarked marked xs → ys ≡ map (set_if t set) xs → IsMarked marked ys
marked_change marked t set xs ys up e rises = subst IsStrictlyIncreasing (sym (ap numbers e ∙ same_numbers t set xs)) (up rises)

pub marked_remove : (marked : Bool) (t : ℕ) (xs ys : List (ℕ × ℕ)) → IsMarked marked xs → ys ≡ filter (λ entry. not (is_of t entry)) xs → IsMarked marked ys
marked_remove marked t xs ys up e rises =
    subst IsStrictlyIncreasing (sym (ap numbers e ∙ map_filters (λ (entry : ℕ × ℕ). entry.0) (λ n. not (eqb n t)) xs))
    (IsStrictlyIncreasing-filter (λ n. not (eqb n t)) (numbers xs) (up rises))
