-- A page found by a search of rising numbers.
use Rattle.process.proofs.Common.{position, Bool, true, false, cond, nat_eq, nat_lt, ◌≡◌, ◌≢◌, ℕ, ◌<◌, ◌≤◌, List, [], ◌∷◌, length, map, Some, None, nat_cmp, refl, sym, ap, arith, zero, suc, get_or, eq-eqb, inl, inr, Ok, Err, IsStrictlyIncreasing, ne_eqb, cases_eq, cases_lt, lt-ltb, le-ltb, eqb-true, ImagePage, page_of, AllPairs-from_increasing, position_or_len, IsBinarySearchResult, ltb-false}
use Rattle.std.proofs.lemmas.List.Quantifiers.{position-Some}
use Rattle.std.proofs.lemmas.List.Sums.{position_or_len_is, fails_before_first}
use Rattle.std.proofs.lemmas.List.Sorted.{searched}

-- among rising numbers, a later one is greater
pub rises : (xs : List ℕ) (i j : ℕ) → IsStrictlyIncreasing xs → i < j → j < length xs → get_or xs i 0 < get_or xs j 0
rises xs i j up lt within = AllPairs-from_increasing xs up i j 0 lt within

-- and no later one is smaller
pub never_falls : (xs : List ℕ) (i j : ℕ) → IsStrictlyIncreasing xs → i ≤ j → j < length xs → get_or xs i 0 ≤ get_or xs j 0
never_falls xs i j up le within = elim (cases_eq i j) [
  | inl same ↦ rw same (omega arith)
  | inr ne ↦ let below = rises xs i j up (omega arith) within in omega (arith, below)
]

-- a search that fails found a place between the smaller and the greater numbers
pub missing : (xs : List ℕ) (n at : ℕ) → IsStrictlyIncreasing xs → IsBinarySearchResult (λ y. nat_cmp y n) xs (Err at) → (k : ℕ) → k < length xs → get_or xs k 0 ≢ n
missing xs n at up is k within same =
    let found = searched xs n (Err at) is (λ i j le lt. never_falls xs i j up le lt) in
    elim (cases_lt k at) [
      | inl lt ↦ let low = found.1 k lt in omega (arith, low, same)
      | inr le ↦ let high = found.2 k le within in omega (arith, high, same)
    ]

-- where a number stands among rising numbers
pub position-at : (xs : List ℕ) (n i : ℕ) → IsStrictlyIncreasing xs → i < length xs → get_or xs i 0 ≡ n → position (λ m. nat_eq m n) xs ≡ Some i
position-at xs n i up within same =
    let e : position_or_len (λ m. nat_eq m n) xs ≡ i = position_or_len_is (λ m. nat_eq m n) xs i 0 (omega arith)
    (λ k lt. ne_eqb (get_or xs k 0) n (λ other. let below = rises xs k i up lt within in omega (arith, below, same, other)))
    (λ _. eq-eqb (get_or xs i 0) n same) in
    rw (e, lt-ltb i (length xs) within) refl

-- a number that stands nowhere
pub position-none : (xs : List ℕ) (n : ℕ) → ((k : ℕ) → k < length xs → get_or xs k 0 ≢ n) → position (λ m. nat_eq m n) xs ≡ None
position-none xs n h =
    let e : position_or_len (λ m. nat_eq m n) xs ≡ length xs = position_or_len_is (λ m. nat_eq m n) xs (length xs) 0 (omega arith)
    (λ k lt. ne_eqb (get_or xs k 0) n (h k lt)) (λ lt. absurd (omega arith)) in
    rw (e, le-ltb (length xs) (length xs) (omega arith)) refl

none_if : (b : Bool) (i : ℕ) → cond b (Some i) None ≡ None → b ≡ false
none_if true i e = cc
none_if false i e = refl

-- what it means that a number stands nowhere
pub none_stands : (xs : List ℕ) (n : ℕ) → position (λ m. nat_eq m n) xs ≡ None → (k : ℕ) → k < length xs → get_or xs k 0 ≢ n
none_stands xs n none k lt same =
    let past : length xs ≤ position_or_len (λ m. nat_eq m n) xs = ltb-false _ _ (none_if (nat_lt (position_or_len (λ m. nat_eq m n) xs) (length xs)) _ none) in
    let fails : nat_eq (get_or xs k 0) n ≡ false = fails_before_first (λ m. nat_eq m n) xs k 0 (omega arith) in
    let passes : nat_eq (get_or xs k 0) n ≡ true = eq-eqb (get_or xs k 0) n same in
    cc

-- what stands at the place that is found
pub some_stands : (xs : List ℕ) (n i : ℕ) → position (λ m. nat_eq m n) xs ≡ Some i → (i < length xs) × (get_or xs i 0 ≡ n)
some_stands xs n i found = let p = position-Some (λ m. nat_eq m n) xs i 0 found in (p.0, eqb-true (get_or xs i 0) n p.1)

abbrev pub numbers : List ImagePage → List ℕ
numbers pages = map (λ (p : ImagePage). p.number) pages

-- no page has the number
pub page_of-none : (pages : List ImagePage) (n : ℕ) → ((k : ℕ) → k < length (numbers pages) → get_or (numbers pages) k 0 ≢ n) → page_of pages n ≡ None
page_of-none [] n h = refl
page_of-none (p ∷ ps) n h = rw (ne_eqb p.number n (h 0 (omega arith))) (page_of-none ps n (λ k lt. h (suc k) (omega arith)))

-- a page with the number is the one that is found, where the numbers before it differ
pub page_of-at : (pages : List ImagePage) (n i : ℕ) (p : ImagePage) → i < length pages → p ≡ get_or pages i p → get_or (numbers pages) i 0 ≡ n → ((k : ℕ) → k < i → get_or (numbers pages) k 0 ≢ n) → page_of pages n ≡ Some p
page_of-at [] n i p within is same h = absurd (omega arith)
page_of-at (q ∷ qs) n zero p within is same h = rw (eq-eqb q.number n same) (ap Some (sym is))
page_of-at (q ∷ qs) n (suc i) p within is same h = rw (ne_eqb q.number n (h 0 (omega arith))) (page_of-at qs n i p (omega arith) is same (λ k lt. h (suc k) (omega arith)))

-- the same, where the numbers rise
pub page_of-rising : (pages : List ImagePage) (n i : ℕ) (p : ImagePage) → IsStrictlyIncreasing (numbers pages) → i < length pages → i < length (numbers pages) → p ≡ get_or pages i p → get_or (numbers pages) i 0 ≡ n → page_of pages n ≡ Some p
page_of-rising pages n i p up within short is same =
    page_of-at pages n i p within is same (λ k lt other. let below = rises (numbers pages) k i up lt short in omega (arith, below, same, other))

-- a search that succeeds found the number
pub found_at : (xs : List ℕ) (n at : ℕ) → IsStrictlyIncreasing xs → IsBinarySearchResult (λ y. nat_cmp y n) xs (Ok at) → (at < length xs) × (get_or xs at 0 ≡ n)
found_at xs n at up is = searched xs n (Ok at) is (λ i j le lt. never_falls xs i j up le lt)
