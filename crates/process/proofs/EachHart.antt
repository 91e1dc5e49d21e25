-- Harts that change one after another, each in its own way.
use Rattle.process.proofs.Common.{◌≡◌, ℕ, ◌+◌, ◌<◌, ◌≤◌, List, length, set, refl, sym, ap, ◌∙◌, arith, cond, Option, Some, None, nat_lt, slice_get, get_or, inl, inr, option_map, cases_eq, cases_lt, lt-ltb, le-ltb, slice_get-get_or, slice_get_past, HartState}
use Rattle.process.proofs.HartStates.{get_set_other, get_set_same}

-- a hart at place j, where those at places before n have changed
abbrev pub changed_before : (ℕ → HartState → HartState) → ℕ → ℕ → HartState → HartState
changed_before f n j x = cond (nat_lt j n) (f j x) x

all_changed : (f : ℕ → HartState → HartState) (n j : ℕ) (o : Option HartState) → j < n → option_map (changed_before f n j) o ≡ option_map (f j) o
all_changed f n j None lt = refl
all_changed f n j (Some x) lt = ap Some (rw (lt-ltb j n lt) refl)

not_yet : (f : ℕ → HartState → HartState) (n j : ℕ) (o : Option HartState) → n ≤ j → option_map (changed_before f n j) o ≡ o
not_yet f n j None le = refl
not_yet f n j (Some x) le = ap Some (rw (le-ltb j n le) refl)

-- when all harts are through
pub all_through : (f : ℕ → HartState → HartState) (n : ℕ) (was now : List HartState) → length was ≤ n → ((j : ℕ) → slice_get now j ≡ option_map (changed_before f n j) (slice_get was j)) →
    (k : ℕ) → slice_get now k ≡ option_map (f k) (slice_get was k)
all_through f n was now few each k = elim (cases_lt k n) [
  | inl lt ↦ each k ∙ all_changed f n k (slice_get was k) lt
  | inr le ↦ let none : slice_get was k ≡ None = slice_get_past was k (omega arith) in each k ∙ ap (option_map (changed_before f n k)) none ∙ ap (option_map (f k)) (sym none)
]

-- one hart more
pub one_through : (f : ℕ → HartState → HartState) (n : ℕ) (was now : List HartState) (x y : HartState) → n < length now → x ≡ get_or now n x → y ≡ f n x →
    ((j : ℕ) → slice_get now j ≡ option_map (changed_before f n j) (slice_get was j)) → (j : ℕ) → slice_get (set now n y) j ≡ option_map (changed_before f (n + 1) j) (slice_get was j)
one_through f n was now x y lt here y-is each j = elim (cases_eq j n) [
  | inl same ↦
      let at : slice_get now n ≡ Some x = slice_get-get_or now n x lt ∙ ap Some (sym here) in
      let before : slice_get was n ≡ Some x = sym (not_yet f n n (slice_get was n) (omega arith)) ∙ sym (each n) ∙ at in
      ap (slice_get (set now n y)) same ∙ get_set_same now n x y at ∙ ap Some y-is
      ∙ ap (λ o. option_map (f n) o) (sym before)
      ∙ sym (all_changed f (n + 1) n (slice_get was n) (omega arith)) ∙ ap (λ i. option_map (changed_before f (n + 1) i) (slice_get was i)) (sym same)
  | inr ne ↦ get_set_other now n j y ne ∙ each j ∙ (elim (cases_lt j n) [
    | inl less ↦ all_changed f n j (slice_get was j) less ∙ sym (all_changed f (n + 1) j (slice_get was j) (omega arith))
    | inr more ↦ not_yet f n j (slice_get was j) more ∙ sym (not_yet f (n + 1) j (slice_get was j) (omega arith))
  ])
]
