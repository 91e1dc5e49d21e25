-- Differences of numbers from those at a start: they tell the numbers, and they are written place by place.
use Rattle.std.proofs.Common.{◌≡◌, ◌≢◌, ℕ, ◌+◌, ◌-◌, ◌<◌, ◌≤◌, Bool, true, false, cond, eqb, List, [], ◌∷◌, ◌++◌, refl, sym, ap, ◌∙◌, append_assoc, zero, suc, arith, inl, inr, length, slice_index, subst}
use Rattle.std.proofs.lemmas.List.{ext_get_or}
use Rattle.std.proofs.lemmas.Bool.{cases_eq, eqb-true, eq-eqb, ne_eqb}
unfoldable use Rattle.place_keys.specs.Differences.{differences}
use Rattle.place_keys.specs.Differences.{IsWrittenOn, Written, sparse_words}
use Rattle.place_keys.proofs.Codes.{IsKey}

abbrev differ_by : Bool → (ℕ → ℕ) → (ℕ → ℕ) → ℕ → ℕ → ℕ → List ℕ
differ_by b start now passed k more = cond b (differences start now (passed + 1) (k + 1) more) ((passed + 1) ∷ now k ∷ differences start now 0 (k + 1) more)

one_more : (start now : ℕ → ℕ) (passed k more : ℕ) → differences start now passed k (suc more) ≡ differ_by (eqb (now k) (start k)) start now passed k more
unfolding differences
one_more start now passed k more = refl

none_left : (start now : ℕ → ℕ) (passed k : ℕ) → differences start now passed k 0 ≡ 0 ∷ []
unfolding differences
none_left start now passed k = refl

-- INJECTIVE

-- what differences begin with: more places were passed
farther : (start now : ℕ → ℕ) (more passed k : ℕ) (a : List ℕ) (n : ℕ) (w : List ℕ) → differences start now passed k more ++ a ≡ n ∷ w → n ≢ 0 → passed < n
farther start now zero passed k a n w e ne = let d = sym (ap (λ ws. ws ++ a) (none_left start now passed k)) ∙ e in let zero_is : n ≡ 0 = cc in absurd (ne zero_is)
farther start now (suc more) passed k a n w e ne =
    go (eqb (now k) (start k)) (λ d. farther start now more (passed + 1) (k + 1) a n w d ne) (sym (ap (λ ws. ws ++ a) (one_more start now passed k more)) ∙ e)
  where
    go : (b : Bool) → (differences start now (passed + 1) (k + 1) more ++ a ≡ n ∷ w → passed + 1 < n) → differ_by b start now passed k more ++ a ≡ n ∷ w → passed < n
    go true next d = let far = next d in omega arith
    go false next d = let at : passed + 1 ≡ n = cc in omega arith

pub record AreEqualAt (f g : ℕ → ℕ) (k more : ℕ) (a b : List ℕ) : Type 0 where
  pub same : (j : ℕ) → k ≤ j → j < k + more → f j ≡ g j
  pub rest : a ≡ b

pub differences_key : (start f g : ℕ → ℕ) (more passed k : ℕ) (a b : List ℕ) → differences start f passed k more ++ a ≡ differences start g passed k more ++ b → AreEqualAt f g k more a b
differences_key start f g zero passed k a b e = record {
  same = λ j low high. absurd (omega arith);
  rest = let d = sym (ap (λ ws. ws ++ a) (none_left start f passed k)) ∙ e ∙ ap (λ ws. ws ++ b) (none_left start g passed k) in cc;
}
differences_key start f g (suc more) passed k a b e =
    go (eqb (f k) (start k)) (eqb (g k) (start k)) refl refl (differences_key start f g more (passed + 1) (k + 1) a b) (differences_key start f g more 0 (k + 1) a b)
    (sym (ap (λ ws. ws ++ a) (one_more start f passed k more)) ∙ e ∙ ap (λ ws. ws ++ b) (one_more start g passed k more))
  where
    joined : f k ≡ g k → AreEqualAt f g (k + 1) more a b → AreEqualAt f g k (suc more) a b
    joined first others = record {
      same = λ j low high. elim (cases_eq j k) [
        | inl here ↦ ap f here ∙ first ∙ ap g (sym here)
        | inr ne ↦ others.same j (omega arith) (omega arith)
      ];
      rest = others.rest;
    }

    go : (c d : Bool) → eqb (f k) (start k) ≡ c → eqb (g k) (start k) ≡ d
        → (differences start f (passed + 1) (k + 1) more ++ a ≡ differences start g (passed + 1) (k + 1) more ++ b → AreEqualAt f g (k + 1) more a b)
        → (differences start f 0 (k + 1) more ++ a ≡ differences start g 0 (k + 1) more ++ b → AreEqualAt f g (k + 1) more a b)
        → differ_by c start f passed k more ++ a ≡ differ_by d start g passed k more ++ b → AreEqualAt f g k (suc more) a b
    go true true c d next anew h = joined (eqb-true (f k) (start k) c ∙ sym (eqb-true (g k) (start k) d)) (next h)
    go false false c d next anew h =
        let rest : differences start f 0 (k + 1) more ++ a ≡ differences start g 0 (k + 1) more ++ b = cc in
        let first : f k ≡ g k = cc in
        joined first (anew rest)
    go true false c d next anew h =
        let far = farther start f more (passed + 1) (k + 1) a (passed + 1) (g k ∷ (differences start g 0 (k + 1) more ++ b)) h (omega arith) in absurd (omega arith)
    go false true c d next anew h =
        let far = farther start g more (passed + 1) (k + 1) b (passed + 1) (f k ∷ (differences start f 0 (k + 1) more ++ a)) (sym h) (omega arith) in absurd (omega arith)

pub sparse_key : IsKey (λ (xs : List ℕ). xs) sparse_words
sparse_key xs ys x y e =
    let len : length xs ≡ length ys = cc in
    let rest : differences (λ k. 0) (slice_index xs) 0 0 (length xs) ++ x ≡ differences (λ k. 0) (slice_index ys) 0 0 (length ys) ++ y = cc in
    let found = differences_key (λ k. 0) (slice_index xs) (slice_index ys) (length xs) 0 0 x y (rest ∙ ap (λ n. differences (λ k. 0) (slice_index ys) 0 0 n ++ y) (sym len)) in
    (ext_get_or 0 xs ys len (λ i lt. found.same i (omega arith) (omega arith)), found.rest)

-- WRITTEN

-- places at which nothing differs are passed
passed_by : (start now : ℕ → ℕ) (count passed k more : ℕ) → ((j : ℕ) → k ≤ j → j < k + count → now j ≡ start j)
    → differences start now passed k (count + more) ≡ differences start now (passed + count) (k + count) more
passed_by start now zero passed k more same =
    let none : zero + more ≡ more = omega arith in
    let still : passed ≡ passed + zero = omega arith in
    let here : k ≡ k + zero = omega arith in
    ap (differences start now passed k) none ∙ ap (λ p. differences start now p k more) still ∙ ap (λ j. differences start now (passed + zero) j more) here
passed_by start now (suc count) passed k more same =
    let left : suc count + more ≡ suc (count + more) = omega arith in
    let still : passed + 1 + count ≡ passed + suc count = omega arith in
    let here : k + 1 + count ≡ k + suc count = omega arith in
    ap (differences start now passed k) left ∙ one_more start now passed k (count + more)
    ∙ ap (λ b. differ_by b start now passed k (count + more)) (eq-eqb (now k) (start k) (same k (omega arith) (omega arith)))
    ∙ passed_by start now count (passed + 1) (k + 1) more (λ j low high. same j (omega arith) (omega arith))
    ∙ ap (λ p. differences start now p (k + 1 + count) more) still ∙ ap (λ j. differences start now (passed + suc count) j more) here

-- where nothing differs there is the end alone
pub nothing_differs : (start now : ℕ → ℕ) (passed k more : ℕ) → ((j : ℕ) → k ≤ j → j < k + more → now j ≡ start j) → differences start now passed k more ≡ 0 ∷ []
nothing_differs start now passed k more same =
    let all : more ≡ more + 0 = omega arith in
    ap (differences start now passed k) all ∙ passed_by start now more passed k 0 same ∙ none_left start now (passed + more) (k + more)

abbrev at_place : List ℕ → ℕ → ℕ → Written
at_place words past next = record { words = words; past = past; next = next }

pub skipped : (start now : ℕ → ℕ) (words : List ℕ) (past next next' : ℕ) → past ≤ next → next ≤ next' → ((j : ℕ) → next ≤ j → j < next' → now j ≡ start j)
    → IsWrittenOn start now (at_place words past next) (at_place words past next')
skipped start now words past next next' order far same = record {
  order = omega arith;
  all = λ more.
      let passed : next - past + (next' - next) ≡ next' - past = omega arith in
      let here : next + (next' - next) ≡ next' = omega arith in
      sym (ap (λ ws. words ++ ws) (passed_by start now (next' - next) (next - past) next more (λ j low high. same j low (omega arith))
      ∙ ap (λ p. differences start now p (next + (next' - next)) more) passed ∙ ap (λ j. differences start now (next' - past) j more) here));
}

pub same_on : (start now : ℕ → ℕ) (words : List ℕ) (past place : ℕ) → past ≤ place → now place ≡ start place
    → IsWrittenOn start now (at_place words past place) (at_place words past (place + 1))
same_on start now words past place order same =
    skipped start now words past place (place + 1) order (omega arith) (λ j low high. let here : j ≡ place = omega arith in ap now here ∙ same ∙ ap start (sym here))

pub other_on : (start now : ℕ → ℕ) (words w1 w2 : List ℕ) (past place : ℕ) → past ≤ place → (now place ≡ start place → ⊥) → w1 ≡ words ++ (place - past + 1) ∷ [] → w2 ≡ w1 ++ now place ∷ []
    → IsWrittenOn start now (at_place words past place) (at_place w2 (place + 1) (place + 1))
other_on start now words w1 w2 past place order other p q = record {
  order = omega arith;
  all = λ more.
      let count : place + 1 - place + more ≡ suc more = omega arith in
      let none : place + 1 - (place + 1) ≡ 0 = omega arith in
      let rest = differences start now 0 (place + 1) more in
      ap (λ z. w2 ++ differences start now z (place + 1) more) none
      ∙ ap (λ ws. ws ++ rest) (q ∙ ap (λ ws. ws ++ now place ∷ []) p)
      ∙ append_assoc (words ++ (place - past + 1) ∷ []) (now place ∷ []) rest ∙ append_assoc words ((place - past + 1) ∷ []) (now place ∷ rest)
      ∙ sym (ap (λ ws. words ++ ws) (ap (differences start now (place - past) place) count ∙ one_more start now (place - past) place more
      ∙ ap (λ b. differ_by b start now (place - past) place more) (ne_eqb (now place) (start place) other)));
}

pub then_on : (start now : ℕ → ℕ) (a b c : Written) → a.next ≤ b.next → b.next ≤ c.next → IsWrittenOn start now a b → IsWrittenOn start now b c → IsWrittenOn start now a c
then_on start now a b c low high first second = record {
  order = second.order;
  all = λ more.
      let count : b.next - a.next + (c.next - b.next + more) ≡ c.next - a.next + more = omega arith in
      second.all more ∙ first.all (c.next - b.next + more) ∙ ap (λ k. a.words ++ differences start now (a.next - a.past) a.next k) count;
}

pub ended_on : (start now : ℕ → ℕ) (old words new : List ℕ) (past all : ℕ) → IsWrittenOn start now (at_place old 0 0) (at_place words past all) → new ≡ words ++ 0 ∷ []
    → new ≡ old ++ differences start now 0 0 all
ended_on start now old words new past all done is =
    let none : 0 - 0 ≡ 0 = omega arith in
    let count : all - 0 + 0 ≡ all = omega arith in
    is ∙ ap (λ ws. words ++ ws) (sym (none_left start now (all - past) all)) ∙ done.all 0 ∙ ap (λ k. old ++ differences start now (0 - 0) 0 k) count
    ∙ ap (λ k. old ++ differences start now k 0 all) none

-- the place that comes next, said in another way
pub moved : (start now : ℕ → ℕ) (from : Written) (words : List ℕ) (past next next' : ℕ) → next ≡ next' → IsWrittenOn start now from (at_place words past next) → IsWrittenOn start now from (at_place words past next')
moved start now from words past next next' e on = subst (λ k. IsWrittenOn start now from (at_place words past k)) e on
