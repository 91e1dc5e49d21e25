-- What a run that is told does to the outcomes that were found, by the place of its own.
use Rattle.std.proofs.Common.{◌≡◌, ◌≤◌, ℕ, ◌+◌, ◌<◌, zero, suc, Bool, true, false, cond, List, [], ◌∷◌, ◌++◌, Option, Some, None, length, get_or, set, refl, sym, ap, ◌∙◌, arith, ltb}
use Rattle.std.specs.Prelude.{◌||◌}
use Rattle.std.specs.List.{position, position_or_len}
use Rattle.std.proofs.lemmas.Bool.{le-leb, lt-leb, ltb-false}
use Rattle.std.proofs.lemmas.List.Elements.{All-from_get_or}
use Rattle.std.proofs.lemmas.List.Folds.{list_any_none}
use Rattle.std.proofs.lemmas.List.Quantifiers.{position-Some}
use Rattle.std.proofs.lemmas.List.Sums.{fails_before_first}
use Rattle.explored_runs.specs.declared.explored.Found.{Found}
use Rattle.explored_runs.specs.declared.explored.Others.{Others}
use Rattle.explored_runs.specs.declared.made.Made.{Made}
use Rattle.explored_runs.specs.Accounts.{came_to, counted, first_of, found_after, is_full, is_known, others_after, with_other}

-- one more run of an outcome
abbrev pub once_more : Found → Found
once_more f = record f { runs = f.runs + 1 }

counted_head : (m : Made) (f : Found) (found : List Found) → came_to m f ≡ true → counted m (f ∷ found) ≡ once_more f ∷ found
counted_head m f found is = ap (λ (b : Bool). cond b (once_more f ∷ found) (f ∷ counted m found)) is

counted_tail : (m : Made) (f : Found) (found : List Found) → came_to m f ≡ false → counted m (f ∷ found) ≡ f ∷ counted m found
counted_tail m f found is = ap (λ (b : Bool). cond b (once_more f ∷ found) (f ∷ counted m found)) is

-- where the outcome at a place is the first that a run came to, it counts one run more
counted_at : (m : Made) (found : List Found) (i : ℕ) (d : Found) → i < length found → came_to m (get_or found i d) ≡ true
    → ((k : ℕ) → k < i → came_to m (get_or found k d) ≡ false) → counted m found ≡ set found i (once_more (get_or found i d))
counted_at m [] i d within here before = absurd (omega arith)
counted_at m (f ∷ found) zero d within here before = counted_head m f found here
counted_at m (f ∷ found) (suc i) d within here before =
    counted_tail m f found (before 0 (omega arith))
    ∙ ap (λ (more : List Found). f ∷ more) (counted_at m found i d (omega arith) here (λ k below. before (suc k) (omega arith)))

-- and then it is known
or_true : (b : Bool) → (b || true) ≡ true
or_true true = refl
or_true false = refl

known_at : (m : Made) (found : List Found) (i : ℕ) (d : Found) → i < length found → came_to m (get_or found i d) ≡ true
    → is_known m found ≡ true
known_at m [] i d within here = absurd (omega arith)
known_at m (f ∷ found) zero d within here = ap (λ (b : Bool). b || is_known m found) here
known_at m (f ∷ found) (suc i) d within here =
    ap (λ (b : Bool). came_to m f || b) (known_at m found i d (omega arith) here) ∙ or_true (came_to m f)

-- where it has no place, it isn't known
past : (b : Bool) (i : ℕ) → cond b (Some i) None ≡ None → b ≡ false
past true i none = absurd cc
past false i none = refl

none_before : (m : Made) (found : List Found) → position (came_to m) found ≡ None → length found ≤ position_or_len (came_to m) found
none_before m found none =
    ltb-false _ _ (past (ltb (position_or_len (came_to m) found) (length found)) (position_or_len (came_to m) found) none)

none_known : (m : Made) (found : List Found) → position (came_to m) found ≡ None → is_known m found ≡ false
none_known m [] none = refl
none_known m (f ∷ found) none =
    let all = none_before m (f ∷ found) none in
    list_any_none (came_to m) (f ∷ found)
    (All-from_get_or (λ (g : Found). came_to m g ≡ false) (f ∷ found) f
    (λ i below. fails_before_first (came_to m) (f ∷ found) i f (omega arith)))

-- what is told, by whether the outcome is known and whether the outcomes are full
by_found : (m : Made) (found : List Found) (known full : Bool) → is_known m found ≡ known → is_full found ≡ full
    → found_after m found ≡ cond known (counted m found) (cond full found (found ++ first_of m ∷ []))
by_found m found known full a b =
    ap (λ (k : Bool). cond k (counted m found) (cond (is_full found) found (found ++ first_of m ∷ []))) a
    ∙ ap (λ (f : Bool). cond known (counted m found) (cond f found (found ++ first_of m ∷ []))) b

by_others : (m : Made) (found : List Found) (o : Option Others) (known full : Bool) → is_known m found ≡ known → is_full found ≡ full
    → others_after m found o ≡ cond known o (cond full (Some (with_other m o)) o)
by_others m found o known full a b =
    ap (λ (k : Bool). cond k o (cond (is_full found) (Some (with_other m o)) o)) a
    ∙ ap (λ (f : Bool). cond known o (cond f (Some (with_other m o)) o)) b

-- at a place
pub found_known : (m : Made) (found : List Found) (i : ℕ) (f : Found) → position (came_to m) found ≡ Some i → f ≡ get_or found i f
    → set found i (once_more f) ≡ found_after m found
found_known m found i f at is =
    let there = position-Some (came_to m) found i f at in
    ap (λ (g : Found). set found i (once_more g)) is
    ∙ sym (counted_at m found i f there.0 there.1 there.2)
    ∙ sym (by_found m found true (is_full found) (known_at m found i f there.0 there.1) refl)

pub others_known : (m : Made) (found : List Found) (i : ℕ) (f : Found) (o : Option Others) → position (came_to m) found ≡ Some i
    → o ≡ others_after m found o
others_known m found i f o at =
    let there = position-Some (came_to m) found i f at in
    sym (by_others m found o true (is_full found) (known_at m found i f there.0 there.1) refl)

-- at no place, where as many outcomes were found as are told apart
pub found_full : (m : Made) (found : List Found) → position (came_to m) found ≡ None → 64 ≤ length found → found ≡ found_after m found
found_full m found none full = sym (by_found m found false true (none_known m found none) (le-leb 64 (length found) full))

pub others_full : (m : Made) (found : List Found) (o : Option Others) → position (came_to m) found ≡ None → 64 ≤ length found
    → Some (with_other m o) ≡ others_after m found o
others_full m found o none full = sym (by_others m found o false true (none_known m found none) (le-leb 64 (length found) full))

-- and where there is room
pub found_new : (m : Made) (found : List Found) → position (came_to m) found ≡ None → length found < 64
    → found ++ first_of m ∷ [] ≡ found_after m found
found_new m found none room = sym (by_found m found false false (none_known m found none) (lt-leb 64 (length found) room))
