-- Where an element stands that alone passes a test, and what is found, changed or taken away there.
use Rattle.std.proofs.Common.{◌≡◌, ℕ, zero, suc, ◌+◌, ◌<◌, ◌≤◌, Bool, true, false, not, cond, ltb, List, [], ◌∷◌, length, get_or, set, map, filter, find, Some, None, Result, Ok, Err, eqb, refl, sym, ap, ◌∙◌, inl, inr, arith}
use Rattle.std.specs.List.{AllByRecursion, IsDistinct, position, position_or_len, remove, slice_get}
use Rattle.std.specs.List.Sorted.{IsSearchInRange, IsBinarySearchResult, IsNonDecreasingBy, IsStrictlyIncreasing}
use Rattle.std.specs.Ordering.{nat_cmp, ordering_index}
use Rattle.std.specs.Result.{result_ok}
use Rattle.std.proofs.lemmas.Bool.{cases_lt}
use Rattle.std.proofs.lemmas.Bool.Decides.{nat_tests}
use Rattle.std.proofs.lemmas.Cmp.{ranked}
use Rattle.std.proofs.lemmas.List.{get_or-map, length-map}
use Rattle.std.proofs.lemmas.List.Folds.{find_at}
use Rattle.std.proofs.lemmas.Option.{slice_get-get_or}
use Rattle.std.proofs.lemmas.List.Kept.{AllPairs-from_increasing}
use Rattle.std.proofs.lemmas.List.Quantifiers.{position-Some}
use Rattle.std.proofs.lemmas.List.Sorted.{IsNonDecreasingBy-from_default}
use Rattle.std.proofs.lemmas.List.Sums.{position_or_len_is}
use Rattle.std.proofs.lemmas.Map.Keys.{IsDistinct-head, IsDistinct-tail, IsDistinct-from_apart}

module _ {X : Type 0} (p : X → Bool) where
  -- how many pass, where one does and where it doesn't
  count_passes : (x : X) (xs : List X) → p x ≡ true → length (filter p (x ∷ xs)) ≡ 1 + length (filter p xs)
  count_passes x xs e = ap (λ b. length (cond b (x ∷ filter p xs) (filter p xs))) e ∙ omega arith

  count_fails : (x : X) (xs : List X) → p x ≡ false → length (filter p (x ∷ xs)) ≡ length (filter p xs)
  count_fails x xs e = ap (λ b. length (cond b (x ∷ filter p xs) (filter p xs))) e

  found_counts : (xs : List X) (i : ℕ) (d : X) → i < length xs → p (get_or xs i d) ≡ true → 0 < length (filter p xs)
  found_counts [] i d within is = absurd (omega arith)
  found_counts (x ∷ xs) zero d within is = omega (arith, count_passes x xs is)
  found_counts (x ∷ xs) (suc i) d within is =
      let rest = found_counts xs i d (omega arith) is in
      elim (p x) as (λ b. 0 < length (cond b (x ∷ filter p xs) (filter p xs))) [ true ↦ omega arith | false ↦ rest ]

  none_counts : (xs : List X) → length xs ≤ position_or_len p xs → length (filter p xs) ≡ 0
  none_counts [] le = refl
  none_counts (x ∷ xs) le = go (p x) refl le (none_counts xs)
    where
      go : (b : Bool) → p x ≡ b → suc (length xs) ≤ cond (not b) (1 + position_or_len p xs) 0 → (length xs ≤ position_or_len p xs → length (filter p xs) ≡ 0)
          → length (filter p (x ∷ xs)) ≡ 0
      go true e far rest = absurd (omega arith)
      go false e far rest = count_fails x xs e ∙ rest (omega arith)

  -- where none passes, nothing changes or is taken away
  abbrev AsItWas : (X → X) → List X → Type 0
  AsItWas f xs = record {
    changed : map (λ x. cond (p x) (f x) x) xs ≡ xs;
    kept : filter (λ x. not (p x)) xs ≡ xs;
  }

  none_passes : (f : X → X) (xs : List X) → length (filter p xs) ≡ 0 → AsItWas f xs
  none_passes f [] none = record { changed = refl; kept = refl }
  none_passes f (x ∷ xs) none = go (p x) refl (none_passes f xs)
    where
      go : (b : Bool) → p x ≡ b → (length (filter p xs) ≡ 0 → AsItWas f xs) → AsItWas f (x ∷ xs)
      go true e rest = absurd (omega (arith, none, count_passes x xs e))
      go false e rest =
          let later = rest (omega (arith, none, count_fails x xs e)) in
          record {
            changed = ap (λ b. cond b (f x) x ∷ map (λ y. cond (p y) (f y) y) xs) e ∙ ap (λ ys. x ∷ ys) later.changed;
            kept = ap (λ b. cond (not b) (x ∷ filter (λ y. not (p y)) xs) (filter (λ y. not (p y)) xs)) e ∙ ap (λ ys. x ∷ ys) later.kept;
          }

  -- where one alone passes, it alone changes or is taken away
  abbrev AloneAt : (X → X) → List X → ℕ → X → Type 0
  AloneAt f xs i d = record {
    changed : map (λ x. cond (p x) (f x) x) xs ≡ set xs i (f (get_or xs i d));
    kept : filter (λ x. not (p x)) xs ≡ remove xs i;
  }

  one_passes : (f : X → X) (xs : List X) (i : ℕ) (d : X) → i < length xs → p (get_or xs i d) ≡ true → length (filter p xs) ≤ 1 → AloneAt f xs i d
  one_passes f [] i d within is once = absurd (omega arith)
  one_passes f (x ∷ xs) zero d within is once =
      let later = none_passes f xs (omega (arith, once, count_passes x xs is)) in
      record {
        changed = ap (λ b. cond b (f x) x ∷ map (λ y. cond (p y) (f y) y) xs) is ∙ ap (λ ys. f x ∷ ys) later.changed;
        kept = ap (λ b. cond (not b) (x ∷ filter (λ y. not (p y)) xs) (filter (λ y. not (p y)) xs)) is ∙ later.kept;
      }
  one_passes f (x ∷ xs) (suc i) d within is once = go (p x) refl (one_passes f xs i d (omega arith) is)
    where
      go : (b : Bool) → p x ≡ b → (length (filter p xs) ≤ 1 → AloneAt f xs i d) → AloneAt f (x ∷ xs) (suc i) d
      go true e rest = absurd (omega (arith, once, count_passes x xs e, found_counts xs i d (omega arith) is))
      go false e rest =
          let later = rest (omega (arith, once, count_fails x xs e)) in
          record {
            changed = ap (λ b. cond b (f x) x ∷ map (λ y. cond (p y) (f y) y) xs) e ∙ ap (λ ys. x ∷ ys) later.changed;
            kept = ap (λ b. cond (not b) (x ∷ filter (λ y. not (p y)) xs) (filter (λ y. not (p y)) xs)) e ∙ ap (λ ys. x ∷ ys) later.kept;
          }

  -- what the place of an element says
  no_place : (xs : List X) → position p xs ≡ None → length (filter p xs) ≡ 0
  no_place xs none = go (ltb (position_or_len p xs) (length xs)) refl none
    where
      go : (b : Bool) → ltb (position_or_len p xs) (length xs) ≡ b → cond b (Some (position_or_len p xs)) None ≡ None → length (filter p xs) ≡ 0
      go true e found = let never : ⊥ = cc in absurd never
      go false e found = none_counts xs (grind (arith, nat_tests))

  pub without : (f : X → X) (xs : List X) → position p xs ≡ None → AsItWas f xs
  without f xs none = none_passes f xs (no_place xs none)

  pub alone : (f : X → X) (xs : List X) (i : ℕ) (d : X) → position p xs ≡ Some i → length (filter p xs) ≤ 1 → AloneAt f xs i d
  alone f xs i d e once = let at = position-Some p xs i d e in one_passes f xs i d at.0 at.1 once

  pub place_within : (xs : List X) (i : ℕ) (d : X) → position p xs ≡ Some i → i < length xs
  place_within xs i d e = let at = position-Some p xs i d e in at.0

  -- what stands at the first place is found
  first_place : (xs : List X) (i : ℕ) (d : X) → position p xs ≡ Some i → position_or_len p xs ≡ i
  first_place xs i d e = let at = position-Some p xs i d e in position_or_len_is p xs i d (omega (arith, at.0)) at.2 (λ lt. at.1)

  pub found_there : (xs : List X) (i : ℕ) (d : X) → position p xs ≡ Some i → find p xs ≡ Some (get_or xs i d)
  found_there xs i d e = find_at p xs ∙ ap (slice_get xs) (first_place xs i d e) ∙ slice_get-get_or xs i d (place_within xs i d e)

  none_found : (xs : List X) → length (filter p xs) ≡ 0 → find p xs ≡ None
  none_found [] none = refl
  none_found (x ∷ xs) none = go (p x) refl (none_found xs)
    where
      go : (b : Bool) → p x ≡ b → (length (filter p xs) ≡ 0 → find p xs ≡ None) → cond b (Some x) (find p xs) ≡ None
      go true e rest = absurd (omega (arith, none, count_passes x xs e))
      go false e rest = rest (omega (arith, none, count_fails x xs e))

  pub not_found : (xs : List X) → position p xs ≡ None → find p xs ≡ None
  not_found xs none = none_found xs (no_place xs none)

module _ {X : Type 0} (key : X → ℕ) where
  -- numbers that rise: each stands once
  rising_pairs : (xs : List X) → IsStrictlyIncreasing (map key xs) → (i j : ℕ) (d : X) → i < j → j < length xs → key (get_or xs i d) < key (get_or xs j d)
  rising_pairs xs up i j d below within =
      let long = length-map xs key in
      let left = get_or-map key xs i d (key d) (omega arith) in
      let right = get_or-map key xs j d (key d) within in
      let less = AllPairs-from_increasing (map key xs) up i j (key d) below (omega arith) in
      omega (arith, left, right, less)

  -- a number before the one that is looked for, and one behind it, is another
  below_is_other : (m n : ℕ) → m < n → eqb m n ≡ false
  below_is_other m n lt = grind (arith, nat_tests)

  above_is_other : (m n : ℕ) → n < m → eqb m n ≡ false
  above_is_other m n lt = grind (arith, nat_tests)

  same_is : (m n : ℕ) → m ≡ n → eqb m n ≡ true
  same_is m n e = grind (arith, nat_tests)

  module _ (xs : List X) (up : IsStrictlyIncreasing (map key xs)) (n : ℕ) where
    -- the comparisons with a number rise along the list, as a binary search asks
    comparisons_rise : X → IsNonDecreasingBy (λ x. ordering_index (nat_cmp (key x) n)) xs
    comparisons_rise d = IsNonDecreasingBy-from_default (λ x. ordering_index (nat_cmp (key x) n)) xs d (λ i j le within.
        let keys_rise : key (get_or xs i d) ≤ key (get_or xs j d) = grind (arith, rising_pairs xs up i j d, λ (same : i ≡ j). ap (λ k. key (get_or xs k d)) same) in
        grind (arith, nat_tests))

    place_from_len : (i : ℕ) → i < length xs → position_or_len (λ x. eqb (key x) n) xs ≡ i → Some i ≡ position (λ x. eqb (key x) n) xs
    place_from_len i within e = grind (arith, nat_tests)

    none_from_len : position_or_len (λ x. eqb (key x) n) xs ≡ length xs → None ≡ position (λ x. eqb (key x) n) xs
    none_from_len e = grind (arith, nat_tests)

    search_from : X → (r : Result ℕ ℕ) → IsSearchInRange r (length xs) → IsBinarySearchResult (λ x. nat_cmp (key x) n) xs r → result_ok r ≡ position (λ x. eqb (key x) n) xs
    search_from d (Ok i) within equal =
        let here : key (get_or xs i d) ≡ n = ranked _ n _ (sym (equal d)) in
        place_from_len i within (position_or_len_is (λ x. eqb (key x) n) xs i d (omega arith)
        (λ k lt. below_is_other (key (get_or xs k d)) n (omega (arith, here, rising_pairs xs up k i d lt within)))
        (λ lt. same_is (key (get_or xs i d)) n here))
    search_from d (Err i) within parted =
        let parts = parted (comparisons_rise d) in
        none_from_len (position_or_len_is (λ x. eqb (key x) n) xs (length xs) d (omega arith)
        (λ k lt. elim (cases_lt k i) [
          | inl before ↦ below_is_other (key (get_or xs k d)) n (ranked _ n _ (sym (parts.0 k d (omega arith) before)))
          | inr behind ↦ above_is_other (key (get_or xs k d)) n (ranked _ n _ (sym (parts.1 k d behind lt)))
        ])
        (λ lt. absurd (omega arith)))

  -- a binary search ends at the place of a number, or there is none
  pub searched_place : (xs : List X) → IsStrictlyIncreasing (map key xs) → (n : ℕ) (r : Result ℕ ℕ) → IsSearchInRange r (length xs) → IsBinarySearchResult (λ x. nat_cmp (key x) n) xs r
      → result_ok r ≡ position (λ x. eqb (key x) n) xs
  searched_place [] up n (Ok i) within found = absurd (omega arith)
  searched_place [] up n (Err i) within found = refl
  searched_place (x ∷ xs) up n r within found = search_from (x ∷ xs) up n x r within found

  -- where numbers rise, at most one element has a number
  none_has : (m n : ℕ) → eqb m n ≡ true → (xs : List X) → AllByRecursion (λ k. eqb m k ≡ false) (map key xs) → length (filter (λ x. eqb (key x) n) xs) ≡ 0
  none_has m n same [] others = refl
  none_has m n same (x ∷ xs) others =
      count_fails (λ x. eqb (key x) n) x xs (grind (arith, nat_tests, others.0)) ∙ none_has m n same xs others.1

  pub once_if_distinct : (n : ℕ) (xs : List X) → IsDistinct eqb (map key xs) → length (filter (λ x. eqb (key x) n) xs) ≤ 1
  once_if_distinct n [] apart = omega arith
  once_if_distinct n (x ∷ xs) apart =
      go (eqb (key x) n) refl (IsDistinct-head eqb (key x) (map key xs) apart) (once_if_distinct n xs (IsDistinct-tail eqb (key x) (map key xs) apart))
    where
      go : (b : Bool) → eqb (key x) n ≡ b → AllByRecursion (λ k. eqb (key x) k ≡ false) (map key xs) → length (filter (λ y. eqb (key y) n) xs) ≤ 1
          → length (filter (λ y. eqb (key y) n) (x ∷ xs)) ≤ 1
      go true e others rest = omega (arith, count_passes (λ y. eqb (key y) n) x xs e, none_has (key x) n e xs others)
      go false e others rest = omega (arith, count_fails (λ y. eqb (key y) n) x xs e, rest)

  pub distinct_if_rising : (xs : List ℕ) → IsStrictlyIncreasing xs → IsDistinct eqb xs
  distinct_if_rising xs up =
      IsDistinct-from_apart eqb xs (λ i j d below within. below_is_other (get_or xs i d) (get_or xs j d) (AllPairs-from_increasing xs up i j d below within))

  pub once_if_rising : (n : ℕ) (xs : List X) → IsStrictlyIncreasing (map key xs) → length (filter (λ x. eqb (key x) n) xs) ≤ 1
  once_if_rising n xs up = once_if_distinct n xs (distinct_if_rising (map key xs) up)
