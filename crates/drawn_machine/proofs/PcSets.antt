-- Sets of pcs: one more is put in where a search finds its place.
use Rattle.std.proofs.Common.{◌≡◌, ℕ, zero, suc, ◌<◌, ◌≤◌, Bool, true, false, cond, eqb, ltb, List, [], ◌∷◌, length, get_or, Ok, Err, inl, inr, refl, ap, sym, arith}
use Rattle.std.specs.List.{AllByRecursion, insert}
use Rattle.std.specs.List.Sorted.{IsBinarySearchResult}
use Rattle.std.specs.Ordering.{nat_cmp}
use Rattle.std.proofs.lemmas.Bool.{cases_eq, eq-eqb, eqb-false, le-ltb, lt-ltb, ltb-false, ltb-true, ne_eqb}
use Rattle.std.proofs.lemmas.List.Sorted.{searched}
use Rattle.drawn_machine.specs.PcSets.{IsRising, with_pc}

at_each : (P : ℕ → Type 0) (xs : List ℕ) (i d : ℕ) → AllByRecursion P xs → i < length xs → P (get_or xs i d)
at_each P [] i d all within = absurd (omega arith)
at_each P (x ∷ xs) zero d all within = all.0
at_each P (x ∷ xs) (suc i) d all within = at_each P xs i d all.1 (omega arith)

weaker : (P Q : ℕ → Type 0) (xs : List ℕ) → ((x : ℕ) → P x → Q x) → AllByRecursion P xs → AllByRecursion Q xs
weaker P Q [] by all = tt
weaker P Q (x ∷ xs) by all = (by x all.0, weaker P Q xs by all.1)

-- later ones are greater
rises : (xs : List ℕ) (i j : ℕ) → IsRising xs → i < j → j < length xs → get_or xs i 0 < get_or xs j 0
rises [] i j up lt within = absurd (omega arith)
rises (x ∷ xs) i zero up lt within = absurd (omega arith)
rises (x ∷ xs) zero (suc j) up lt within = at_each (λ y. x < y) xs j 0 up.0 (omega arith)
rises (x ∷ xs) (suc i) (suc j) up lt within = rises xs i j up.1 (omega arith) (omega arith)

never_falls : (xs : List ℕ) (i j : ℕ) → IsRising xs → i ≤ j → j < length xs → get_or xs i 0 ≤ get_or xs j 0
never_falls xs i j up le within = elim (cases_eq i j) [
  | inl same ↦ rw same (omega arith)
  | inr ne ↦ let below = rises xs i j up (omega arith) within in omega (arith, below)
]

-- one that is there
pub present : (xs : List ℕ) (pc i d : ℕ) → IsRising xs → i < length xs → get_or xs i d ≡ pc → with_pc pc xs ≡ xs
present [] pc i d up within same = absurd (omega arith)
present (x ∷ xs) pc zero d up within same = rw (le-ltb x pc (omega (arith, same)), eq-eqb x pc same) refl
present (x ∷ xs) pc (suc i) d up within same =
    let above = at_each (λ y. x < y) xs i d up.0 (omega arith) in
    let later = present xs pc i d up.1 (omega arith) same in
    rw (lt-ltb x pc (omega (arith, same, above))) (ap (λ (ys : List ℕ). x ∷ ys) later)

-- one that isn't, between the smaller and the greater ones
absent : (xs : List ℕ) (pc i : ℕ) → i ≤ length xs → ((k : ℕ) → k < i → get_or xs k 0 < pc)
    → ((k : ℕ) → i ≤ k → k < length xs → pc < get_or xs k 0) → with_pc pc xs ≡ insert xs i pc
absent [] pc zero fits low high = refl
absent [] pc (suc i) fits low high = absurd (omega arith)
absent (x ∷ xs) pc zero fits low high =
    let above : pc < x = high 0 (omega arith) (omega arith) in
    rw (le-ltb x pc (omega (arith, above)), ne_eqb x pc (λ same. omega (arith, same, above))) refl
absent (x ∷ xs) pc (suc i) fits low high =
    let below : x < pc = low 0 (omega arith) in
    let later =
    absent xs pc i (omega arith) (λ k lt. low (suc k) (omega arith)) (λ k le lt. high (suc k) (omega arith) (omega arith)) in
    rw (lt-ltb x pc below) (ap (λ (ys : List ℕ). x ∷ ys) later)

-- as a search finds it
pub with-found : (xs : List ℕ) (pc i : ℕ) → IsRising xs → IsBinarySearchResult (λ y. nat_cmp y pc) xs (Ok i) → with_pc pc xs ≡ xs
with-found xs pc i up is =
    let found = searched xs pc (Ok i) is (λ i j le lt. never_falls xs i j up le lt) in present xs pc i 0 up found.0 found.1

pub with-missing : (xs : List ℕ) (pc i : ℕ) → IsRising xs → IsBinarySearchResult (λ y. nat_cmp y pc) xs (Err i)
    → with_pc pc xs ≡ insert xs i pc
with-missing xs pc i up is =
    let found = searched xs pc (Err i) is (λ i j le lt. never_falls xs i j up le lt) in absent xs pc i found.0 found.1 found.2

-- they still rise
all_with : (P : ℕ → Type 0) (pc : ℕ) (xs : List ℕ) → P pc → AllByRecursion P xs → AllByRecursion P (with_pc pc xs)
all_with P pc [] one all = (one, tt)
all_with P pc (x ∷ xs) one all = go (ltb x pc) (eqb x pc) (all_with P pc xs one all.1)
  where
    go : (b c : Bool) → AllByRecursion P (with_pc pc xs) → AllByRecursion P (cond b (x ∷ with_pc pc xs) (cond c (x ∷ xs) (pc ∷ x ∷ xs)))
    go true c later = (all.0, later)
    go false true later = all
    go false false later = (one, all)

pub rising-with : (pc : ℕ) (xs : List ℕ) → IsRising xs → IsRising (with_pc pc xs)
rising-with pc [] up = (tt, tt)
rising-with pc (x ∷ xs) up = go (ltb x pc) (eqb x pc) refl refl (rising-with pc xs up.1)
  where
    go : (b c : Bool) → ltb x pc ≡ b → eqb x pc ≡ c → IsRising (with_pc pc xs)
        → IsRising (cond b (x ∷ with_pc pc xs) (cond c (x ∷ xs) (pc ∷ x ∷ xs)))
    go true c lt eq later = (all_with (λ y. x < y) pc xs (ltb-true x pc lt) up.0, later)
    go false true lt eq later = up
    go false false lt eq later =
        let le = ltb-false x pc lt in
        let ne = eqb-false x pc eq in
        let above : pc < x = omega (arith, le, ne) in
        ((above, weaker (λ y. x < y) (λ y. pc < y) xs (λ y is. omega (arith, is, above)) up.0), up)
