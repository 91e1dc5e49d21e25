-- Laws of lists that `std` does not have.
use Rattle.std.proofs.Common.{◌≡◌, ℕ, zero, suc, ◌+◌, ◌-◌, ◌<◌, ◌≤◌, inl, inr, Bool, true, false, List, [], ◌∷◌, ◌++◌, length, slice_index, get_or, Some, None, Contains, sum_by, refl, ap, ◌∙◌, arith, add-one, length-append}
use Rattle.std.specs.List.{find, range_with_len}
use Rattle.std.specs.List.Sorted.{IsStrictlyIncreasing}
use Rattle.std.proofs.lemmas.Bool.{cases_eq, cases_lt}
use Rattle.std.proofs.lemmas.List.{get_or_append_left, get_or-append_right}
use Rattle.std.proofs.lemmas.List.FromFn.{length-range_with_len, get_or-range_with_len}
use Rattle.std.proofs.lemmas.List.Sums.{sum_by-cons}

-- what `find` finds is in the list and passes
pub record IsFound {X : Type 0} (p : X → Bool) (xs : List X) (x : X) : Type 0 where
  pub place : ℕ
  pub within : place < length xs
  pub here : (d : X) → get_or xs place d ≡ x
  pub passes : p x ≡ true

pub data Finding {X : Type 0} (p : X → Bool) (xs : List X) : Type 0 where
  some_found : (x : X) → find p xs ≡ Some x → IsFound p xs x → Finding p xs
  none_found : find p xs ≡ None → ((k : ℕ) (d : X) → k < length xs → p (get_or xs k d) ≡ false) → Finding p xs

pub finding : {X : Type 0} (p : X → Bool) (xs : List X) → Finding p xs
finding p [] = none_found refl (λ k d lt. absurd (omega arith))
finding {X = X} p (x ∷ xs) = go (p x) refl (finding p xs)
  where
    go : (b : Bool) → p x ≡ b → Finding p xs → Finding p (x ∷ xs)
    go true e rest = some_found x (rw e refl) (record { place = 0; within = omega arith; here = λ d. refl; passes = e })
    go false e (some_found y is found) = some_found y (rw e is) (record { place = suc found.place; within = omega (arith, found.within); here = λ d. found.here d; passes = found.passes })
    go false e (none_found is never) = none_found (rw e is) (none e never)
      where
        none : p x ≡ false → ((k : ℕ) (d : X) → k < length xs → p (get_or xs k d) ≡ false) → (k : ℕ) (d : X) → k < length (x ∷ xs) → p (get_or (x ∷ xs) k d) ≡ false
        none first others zero d lt = first
        none first others (suc k) d lt = others k d (omega arith)

-- the first element that passes
pub find-at : {X : Type 0} (p : X → Bool) (xs : List X) (i : ℕ) (d : X) → i < length xs → p (get_or xs i d) ≡ true → ((k : ℕ) → k < i → p (get_or xs k d) ≡ false) → find p xs ≡ Some (get_or xs i d)
find-at p [] i d lt here before = absurd (omega arith)
find-at p (x ∷ xs) zero d lt here before = rw here refl
find-at p (x ∷ xs) (suc i) d lt here before =
    let first : p x ≡ false = before 0 (omega arith) in
    rw first (find-at p xs i d (omega arith) here (λ k h. before (suc k) (omega arith)))

pub find-none : {X : Type 0} (p : X → Bool) (xs : List X) (d : X) → ((k : ℕ) → k < length xs → p (get_or xs k d) ≡ false) → find p xs ≡ None
find-none p [] d never = refl
find-none p (x ∷ xs) d never =
    let first : p x ≡ false = never 0 (omega arith) in
    rw first (find-none p xs d (λ k h. never (suc k) (omega arith)))

-- sums whose terms are equal
pub sum_by-same : {X : Type 0} (f g : X → ℕ) (xs : List X) → ((k : ℕ) (d : X) → k < length xs → f (get_or xs k d) ≡ g (get_or xs k d)) → sum_by f xs ≡ sum_by g xs
sum_by-same f g [] same = refl
sum_by-same f g (x ∷ xs) same =
    let first : f x ≡ g x = same 0 x (omega arith) in
    let rest = sum_by-same f g xs (λ k d lt. same (suc k) d (omega arith)) in
    omega (arith, sum_by-cons f x xs, sum_by-cons g x xs)

-- sums of which one term is larger
pub sum_by-one : {X : Type 0} (f g : X → ℕ) (xs : List X) (m more : ℕ) (e : X) → m < length xs → ((k : ℕ) (d : X) → k < length xs → (k ≡ m → ⊥) → g (get_or xs k d) ≡ f (get_or xs k d)) → g (get_or xs m e) ≡ f (get_or xs m e) + more → sum_by g xs ≡ sum_by f xs + more
sum_by-one f g [] m more e lt same here = absurd (omega arith)
sum_by-one f g (x ∷ xs) zero more e lt same here =
    let rest = sum_by-same g f xs (λ k d below. same (suc k) d (omega arith) (λ q. omega arith)) in
    omega (arith, sum_by-cons f x xs, sum_by-cons g x xs)
sum_by-one f g (x ∷ xs) (suc m) more e lt same here =
    let first : g x ≡ f x = same 0 x (omega arith) (λ q. omega arith) in
    let rest = sum_by-one f g xs m more e (omega arith) (λ k d below other. same (suc k) d (omega arith) (λ q. other (omega arith))) here in
    omega (arith, sum_by-cons f x xs, sum_by-cons g x xs)

-- numbers one after the other, after smaller ones
pub increasing-range : (xs : List ℕ) (a n : ℕ) → IsStrictlyIncreasing xs → ((k : ℕ) → k < length xs → slice_index xs k < a) → IsStrictlyIncreasing (xs ++ range_with_len a n)
increasing-range xs a n rising below k lt =
    let many : length (xs ++ range_with_len a n) ≡ length xs + n = length-append xs (range_with_len a n) ∙ ap (λ (m : ℕ). length xs + m) (length-range_with_len a n) in
    elim (cases_lt (k + 1) (length xs)) [
      | inl inside ↦
          let left = get_or_append_left xs (range_with_len a n) 0 k (omega arith) in
          let right = get_or_append_left xs (range_with_len a n) 0 (k + 1) inside in
          omega (arith, rising k inside)
      | inr past ↦
          let right : slice_index (xs ++ range_with_len a n) (k + 1) ≡ a + (k + 1 - length xs) = get_or-append_right xs (range_with_len a n) (length xs) (k + 1) 0 refl past ∙ get_or-range_with_len a n (k + 1 - length xs) 0 (omega arith) in
          elim (cases_lt k (length xs)) [
            | inl last ↦ let left = get_or_append_left xs (range_with_len a n) 0 k last in omega (arith, below k last)
            | inr beyond ↦
                let left : slice_index (xs ++ range_with_len a n) k ≡ a + (k - length xs) = get_or-append_right xs (range_with_len a n) (length xs) k 0 refl beyond ∙ get_or-range_with_len a n (k - length xs) 0 (omega arith) in
                omega arith
          ]
    ]

pub below-range : (xs : List ℕ) (a n b : ℕ) → ((k : ℕ) → k < length xs → slice_index xs k < a) → a ≤ b → a + n ≤ b → (k : ℕ) → k < length (xs ++ range_with_len a n) → slice_index (xs ++ range_with_len a n) k < b
below-range xs a n b below low high k lt =
    let many : length (xs ++ range_with_len a n) ≡ length xs + n = length-append xs (range_with_len a n) ∙ ap (λ (m : ℕ). length xs + m) (length-range_with_len a n) in
    elim (cases_lt k (length xs)) [
      | inl inside ↦ let left = get_or_append_left xs (range_with_len a n) 0 k inside in omega (arith, below k inside)
      | inr past ↦
          let right : slice_index (xs ++ range_with_len a n) k ≡ a + (k - length xs) = get_or-append_right xs (range_with_len a n) (length xs) k 0 refl past ∙ get_or-range_with_len a n (k - length xs) 0 (omega arith) in
          omega arith
    ]

-- which numbers are among those from a on
pub range-contains : (a n x : ℕ) → a ≤ x → x < a + n → Contains (range_with_len a n) x
range-contains a n x low high =
    let here = get_or-range_with_len a n (x - a) x (omega arith) in
    (x - a, omega (arith, length-range_with_len a n), omega arith)

pub contains-range : (a n x : ℕ) → Contains (range_with_len a n) x → (a ≤ x) × (x < a + n)
contains-range a n x (k, lt, is) =
    let few : k < n = omega (arith, length-range_with_len a n) in
    let here = get_or-range_with_len a n k x few in
    (omega arith, omega arith)

-- among rising numbers, a later one is greater
pub rises : (xs : List ℕ) (i j : ℕ) → IsStrictlyIncreasing xs → i < j → j < length xs → get_or xs i 0 < get_or xs j 0
rises xs i zero up lt within = absurd (omega arith)
rises xs i (suc j) up lt within =
    let next : get_or xs j 0 < get_or xs (suc j) 0 = rw add-one at (up j (omega arith)) in
    elim (cases_eq i j) [
      | inl same ↦ rw same next
      | inr ne ↦ let below = rises xs i j up (omega arith) (omega arith) in omega (arith, below, next)
    ]
