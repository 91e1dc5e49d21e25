-- How often a number is in a list, and the order of numbers that rise.
use Rattle.std.proofs.Common.{ℕ, suc, ◌+◌, ◌-◌, ◌<◌, ◌≤◌, ◌≡◌, ◌≢◌, Bool, true, false, not, cond, eqb, List, [], ◌∷◌, ◌++◌, length, get_or, map, filter, find, Some, is_some, All, refl, sym, ap, ◌∙◌, subst, inl, inr, arith}
use Rattle.std.specs.List.Sorted.{IsStrictlyIncreasing}
use Rattle.std.proofs.lemmas.Bool.{cases_lt}
use Rattle.std.proofs.lemmas.Bool.Decides.{nat_tests, eqb_tells}
use Rattle.std.proofs.lemmas.List.{length-append, length_push, get_or_append_left, get_or_push}
use Rattle.std.proofs.lemmas.List.Elements.{filter-append, All-get_or}
use Rattle.mach_types.specs.Kernel.Threads.{times}
use Rattle.mach_types.proofs.Lists.{differs}

abbrev once : Bool → ℕ
once b = cond b 1 0

pub eqb_same : (t : ℕ) → eqb t t ≡ true
eqb_same t = grind (arith, nat_tests)

pub eqb_other : (t u : ℕ) → u ≢ t → eqb t u ≡ false
eqb_other t u other = grind (arith, nat_tests)

-- one number more at the front, or at the end
pub times_cons : (u x : ℕ) (xs : List ℕ) → times u (x ∷ xs) ≡ cond (eqb x u) 1 0 + times u xs
times_cons u x xs =
    elim (eqb x u) as (λ b. length (cond b (x ∷ filter (λ y. eqb y u) xs) (filter (λ y. eqb y u) xs)) ≡ cond b 1 0 + length (filter (λ y. eqb y u) xs))
    [ true ↦ omega arith | false ↦ omega arith ]

pub times_push : (u : ℕ) (xs : List ℕ) (t : ℕ) → times u (xs ++ t ∷ []) ≡ times u xs + times u (t ∷ [])
times_push u xs t = ap length (filter-append (λ x. eqb x u) xs (t ∷ [])) ∙ length-append (filter (λ x. eqb x u) xs) (filter (λ x. eqb x u) (t ∷ []))

pub times_one : (t : ℕ) → times t (t ∷ []) ≡ 1
times_one t = ap (λ b. length (cond b (t ∷ []) [])) (eqb_same t)

pub times_one_other : (t u : ℕ) → u ≢ t → times u (t ∷ []) ≡ 0
times_one_other t u other = ap (λ b. length (cond b (t ∷ []) [])) (eqb_other t u other)

-- a number that is taken away is there no more, and the others are as often there
times_same_step : (t x : ℕ) (b : Bool) → eqb x t ≡ b → (rest : List ℕ) → times t rest ≡ 0 → times t (cond (not b) (x ∷ rest) rest) ≡ 0
times_same_step t x true e rest h = h
times_same_step t x false e rest h = ap (λ c. length (cond c (x ∷ filter (λ y. eqb y t) rest) (filter (λ y. eqb y t) rest))) e ∙ h

pub times_filtered_same : (t : ℕ) (xs : List ℕ) → times t (filter (λ x. not (eqb x t)) xs) ≡ 0
times_filtered_same t [] = refl
times_filtered_same t (x ∷ xs) = times_same_step t x (eqb x t) refl (filter (λ y. not (eqb y t)) xs) (times_filtered_same t xs)

times_other_step : (t u : ℕ) → u ≢ t → (x : ℕ) (b : Bool) → eqb x t ≡ b → (rest xs : List ℕ) → times u rest ≡ times u xs
    → times u (cond (not b) (x ∷ rest) rest) ≡ times u (x ∷ xs)
times_other_step t u other x true e rest xs h =
    h ∙ sym (ap (λ c. length (cond c (x ∷ filter (λ y. eqb y u) xs) (filter (λ y. eqb y u) xs))) (differs x t u other e))
times_other_step t u other x false e rest xs h = times_cons u x rest ∙ ap (λ n. cond (eqb x u) 1 0 + n) h ∙ sym (times_cons u x xs)

pub times_filtered_other : (t u : ℕ) → u ≢ t → (xs : List ℕ) → times u (filter (λ x. not (eqb x t)) xs) ≡ times u xs
times_filtered_other t u other [] = refl
times_filtered_other t u other (x ∷ xs) =
    times_other_step t u other x (eqb x t) refl (filter (λ y. not (eqb y t)) xs) xs (times_filtered_other t u other xs)

-- what is found is there
pub found_times : {X : Type 0} (key : X → ℕ) (u : ℕ) (xs : List X) → cond (is_some (find (λ x. eqb (key x) u) xs)) 1 0 ≤ times u (map key xs)
found_times key u [] = omega arith
found_times key u (x ∷ xs) =
    elim (eqb (key x) u) as (λ b. cond (is_some (cond b (Some x) (find (λ y. eqb (key y) u) xs))) 1 0
    ≤ length (cond b (key x ∷ filter (λ k. eqb k u) (map key xs)) (filter (λ k. eqb k u) (map key xs))))
    [ true ↦ omega arith | false ↦ found_times key u xs ]

-- a list without the first place of a number
abbrev less_one : ℕ → List ℕ → List ℕ
less_one n [] = []
less_one n (x ∷ xs) = cond (eqb x n) xs (x ∷ less_one n xs)

length-less_one : (n : ℕ) (xs : List ℕ) → length xs ≤ length (less_one n xs) + 1
length-less_one n [] = omega arith
length-less_one n (x ∷ xs) =
    let rest = length-less_one n xs in
    elim (eqb x n) as (λ b. suc (length xs) ≤ length (cond b xs (x ∷ less_one n xs)) + 1) [ true ↦ omega arith | false ↦ omega (arith, rest) ]

times_less_any : (n u : ℕ) (xs : List ℕ) → times u (less_one n xs) ≤ times u xs
times_less_any n u [] = omega arith
times_less_any n u (x ∷ xs) =
    let rest = times_less_any n u xs in
    let all = times_cons u x xs in
    let more = times_cons u x (less_one n xs) in
    elim (eqb x n) as (λ b. times u (cond b xs (x ∷ less_one n xs)) ≤ times u (x ∷ xs))
    [ true ↦ omega (arith, all) | false ↦ omega (arith, all, more, rest) ]

times_less_step : (n x : ℕ) (b : Bool) → eqb x n ≡ b → (xs : List ℕ) → times n (less_one n xs) ≡ times n xs - 1
    → times n (cond b xs (x ∷ less_one n xs)) ≡ (cond b 1 0 + times n xs) - 1
times_less_step n x true e xs h = omega arith
times_less_step n x false e xs h =
    times_cons n x (less_one n xs) ∙ ap (λ c. cond c 1 0 + times n (less_one n xs)) e ∙ omega (arith, h)

times_less_same : (n : ℕ) (xs : List ℕ) → times n (less_one n xs) ≡ times n xs - 1
times_less_same n [] = omega arith
times_less_same n (x ∷ xs) =
    times_less_step n x (eqb x n) refl xs (times_less_same n xs) ∙ ap (λ k. k - 1) (sym (times_cons n x xs))

times_less : (n u : ℕ) (xs ys : List ℕ) → times u xs ≤ times u (n ∷ ys) → times u (less_one n xs) ≤ times u ys
times_less n u xs ys h =
    let split = times_cons u n ys in
    elim (eqb_tells n u) [
      | inl p ↦
          let one = ap once p.0 in
          let here : times n (less_one n xs) ≤ times u ys = omega (arith, times_less_same n xs, split, one, h, ap (λ k. times k xs) p.1) in
          subst (λ (k : ℕ). times k (less_one n xs) ≤ times u ys) p.1 here
      | inr q ↦
          let none = ap once q.0 in
          omega (arith, times_less_any n u xs, split, none, h)
    ]

-- a list that has no number more often than another isn't longer
pub length_le_from_times : (ys xs : List ℕ) → ((u : ℕ) → times u xs ≤ times u ys) → length xs ≤ length ys
length_le_from_times [] [] h = omega arith
length_le_from_times [] (x ∷ xs) h =
    let one = ap once (eqb_same x) in
    absurd (omega (arith, h x, times_cons x x xs, one))
length_le_from_times (y ∷ ys) xs h =
    let rest = length_le_from_times ys (less_one y xs) (λ u. times_less y u xs ys (h u)) in
    omega (arith, rest, length-less_one y xs)

-- a number above the last one comes at the end, and so does one above all
pub IsStrictlyIncreasing-above : (xs : List ℕ) (y : ℕ) → IsStrictlyIncreasing xs → (0 < length xs → get_or xs (length xs - 1) 0 < y) → IsStrictlyIncreasing (xs ++ y ∷ [])
IsStrictlyIncreasing-above xs y up above k within =
    let long = length_push xs y in
    let left = get_or_append_left xs (y ∷ []) 0 k (omega arith) in
    elim (cases_lt (k + 1) (length xs)) [
      | inl lt ↦
          let right = get_or_append_left xs (y ∷ []) 0 (k + 1) lt in
          omega (arith, left, right, up k lt)
      | inr ge ↦
          let right = get_or_push xs y 0 (k + 1) (omega arith) in
          let last : k ≡ length xs - 1 = omega arith in
          omega (arith, left, right, above (omega arith), ap (λ i. get_or xs i 0) last)
    ]

pub IsStrictlyIncreasing-push : (xs : List ℕ) (y : ℕ) → IsStrictlyIncreasing xs → All (λ x. x < y) xs → IsStrictlyIncreasing (xs ++ y ∷ [])
IsStrictlyIncreasing-push xs y up below =
    IsStrictlyIncreasing-above xs y up (λ some. All-get_or (λ x. x < y) xs (length xs - 1) 0 (omega arith) below)
