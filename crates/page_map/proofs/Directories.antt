-- The numbers of the leaves, as they lie in rows.
use Rattle.std.proofs.Common.{◌≡◌, ℕ, ◌/◌, ◌%◌, ◌<◌, inl, inr, cond, List, [], length, get_or, set, nat_eq, sym, ap, ◌∙◌, arith, eq-eqb}
use Rattle.std.proofs.lemmas.Bool.{cases_eq, cases_lt, ne_eqb}
use Rattle.std.proofs.lemmas.List.{ext_get_or, get_or-set_same, get_or-set_other, get_or_past, length-set}
use Rattle.std.proofs.lemmas.List.FromFn.{get_or-map-range_with_len, length-map-range_with_len}
use Rattle.page_map.specs.Layout.{IsRows, empty_row, numbers_in}
use Rattle.page_map.proofs.Rows.{IsFresh, fresh-row}

pub fresh-zeros : IsFresh 0 empty_row
unfolding empty_row
fresh-zeros = fresh-row 0

abbrev number_at : List ℕ → List (List ℕ) → ℕ → ℕ
number_at names rows c = get_or (get_or rows (get_or names (c / 512) 0) []) (c % 512) 0

pub numbers-length : (names : List ℕ) (rows : List (List ℕ)) → length (numbers_in names rows) ≡ 131072
unfolding numbers_in
numbers-length names rows = length-map-range_with_len (number_at names rows) 0 131072

pub numbers-at : (names : List ℕ) (rows : List (List ℕ)) (c : ℕ) → c < 131072 → get_or (numbers_in names rows) c 0 ≡ number_at names rows c
unfolding numbers_in
numbers-at names rows c lt = get_or-map-range_with_len (number_at names rows) 0 131072 c c 0 lt (omega arith)

-- numbers that are all zero
pub numbers-zero : (names : List ℕ) (rows : List (List ℕ)) → ((c : ℕ) → number_at names rows c ≡ 0) → (c : ℕ)
    → get_or (numbers_in names rows) c 0 ≡ 0
numbers-zero names rows zeros c = elim (cases_lt c 131072) [
  | inl lt ↦ numbers-at names rows c lt ∙ zeros c
  | inr past ↦ get_or_past (numbers_in names rows) c 0 (omega (arith, numbers-length names rows))
]

-- a group without a row of its own has no numbers
pub bare-group : (names : List ℕ) (rows : List (List ℕ)) (capacity c : ℕ) → IsRows 0 256 names rows capacity → c < 131072
    → get_or names (c / 512) 0 ≡ 0 → get_or (numbers_in names rows) c 0 ≡ 0
bare-group names rows capacity c table lt bare =
    numbers-at names rows c lt ∙ ap (λ i. get_or (get_or rows i []) (c % 512) 0) bare ∙ table.empty (c % 512)

-- a number is written
module _ (names names' : List ℕ) (rows after : List (List ℕ)) (chunk number : ℕ) (inside : chunk < 131072)
    (written : (c : ℕ) → c < 131072 → number_at names' after c ≡ cond (nat_eq c chunk) number (number_at names rows c)) where
  one-set : (c : ℕ) → c < 131072 → get_or (numbers_in names' after) c 0 ≡ get_or (set (numbers_in names rows) chunk number) c 0
  one-set c lt = numbers-at names' after c lt ∙ written c lt ∙ elim (cases_eq c chunk) [
    | inl same ↦
        rw (eq-eqb c chunk same, same) (sym (get_or-set_same (numbers_in names rows) chunk number 0 (omega (arith, numbers-length names rows))))
    | inr two ↦
        rw (ne_eqb c chunk two) (sym (get_or-set_other (numbers_in names rows) chunk c number 0 two ∙ numbers-at names rows c lt))
  ]

  pub numbers-set : numbers_in names' after ≡ set (numbers_in names rows) chunk number
  numbers-set =
      ext_get_or 0 (numbers_in names' after) (set (numbers_in names rows) chunk number)
      (numbers-length names' after ∙ sym (length-set (numbers_in names rows) chunk number ∙ numbers-length names rows))
      (λ c lt. one-set c (omega (arith, numbers-length names' after)))
