-- No word is of two rows: any two rows ask for different values of some bit that both fix.
use Rattle.std.proofs.Common.{◌≡◌, ℕ, ◌+◌, ◌≤◌, ◌==◌, Bool, true, false, not, ◌&&◌, cond, List, [], ◌∷◌, Some, refl, ap, sym, ◌∙◌, arith, eqb-true, eq-eqb, slice_get, zero, suc, unwrap_or, rules}
use Rattle.std.proofs.lemmas.Bool.{and_parts, both_ways, not-true}
use Rattle.std.specs.List.{count_by}
use Rattle.std.specs.Int.Bits.{bit_and}
use Rattle.std.proofs.lemmas.Nat.{and_assoc, and_comm}
use Rattle.std.proofs.lemmas.List.Sums.{sum_by-cons}
use Rattle.rv_inst.specs.Table.{Row, is_of_row, first_row, rows, row_of, IsUnambiguous}

-- two rows differ in a bit that both fix
abbrev is_apart : Row → Row → Bool
is_apart r s = not (bit_and r.match s.mask == bit_and s.match r.mask)

abbrev is_apart_from_all : Row → List Row → Bool
is_apart_from_all r [] = true
is_apart_from_all r (s ∷ ss) = is_apart r s && is_apart_from_all r ss

abbrev are_apart : List Row → Bool
are_apart [] = true
are_apart (r ∷ rs) = is_apart_from_all r rs && are_apart rs

-- where two masked words are two matches, the matches agree in the bits of both masks
agree_on_both : (w a b m n : ℕ) → bit_and w a ≡ m → bit_and w b ≡ n → bit_and m b ≡ bit_and n a
agree_on_both w a b m n e f =
    ap (λ t. bit_and t b) (sym e) ∙ and_assoc b w a ∙ ap (bit_and w) (and_comm a b) ∙ sym (and_assoc a w b) ∙ ap (λ t. bit_and t a) f

-- no word is of two rows that are apart
not_both : (w : ℕ) (r s : Row) → is_apart r s ≡ true → is_of_row w r ≡ true → is_of_row w s ≡ true → ⊥
not_both w r s apart of_r of_s =
    both_ways _ (not-true _ apart) (eq-eqb _ _ (agree_on_both w r.mask s.mask r.match s.match (eqb-true _ _ of_r) (eqb-true _ _ of_s)))

false_unless_true : (b : Bool) → (b ≡ true → ⊥) → b ≡ false
false_unless_true true why = absurd (why refl)
false_unless_true false why = refl

-- one more element
at_most_one_of : (b : Bool) (n total : ℕ) → total ≡ cond b 1 0 + n → (b ≡ true → n ≡ 0) → n ≤ 1 → total ≤ 1
at_most_one_of true n total e none le = let z : n ≡ 0 = none refl in omega arith
at_most_one_of false n total e none le = omega arith

-- a word of a row is of none that is apart from it
none_more : (w : ℕ) (r : Row) (rs : List Row) → is_apart_from_all r rs ≡ true → is_of_row w r ≡ true → count_by (λ s. is_of_row w s) rs ≡ 0
none_more w r [] apart of_r = refl
none_more w r (s ∷ rs) apart of_r =
    let here : is_of_row w s ≡ false = false_unless_true (is_of_row w s) (not_both w r s (and_parts (is_apart r s) (is_apart_from_all r rs) apart).0 of_r) in
    let later : count_by (λ t. is_of_row w t) rs ≡ 0 = none_more w r rs (and_parts (is_apart r s) (is_apart_from_all r rs) apart).1 of_r in
    sum_by-cons (λ t. cond (is_of_row w t) 1 0) s rs ∙ ap (λ b. cond b 1 0 + count_by (λ t. is_of_row w t) rs) here ∙ ap (λ n. 0 + n) later

at_most_one : (rs : List Row) → are_apart rs ≡ true → IsUnambiguous rs
at_most_one [] apart w = omega arith
at_most_one (r ∷ rs) apart w =
    let later : count_by (λ t. is_of_row w t) rs ≤ 1 = at_most_one rs (and_parts (is_apart_from_all r rs) (are_apart rs) apart).1 w in
    let none : is_of_row w r ≡ true → count_by (λ t. is_of_row w t) rs ≡ 0 = none_more w r rs (and_parts (is_apart_from_all r rs) (are_apart rs) apart).0 in
    let head : count_by (λ t. is_of_row w t) (r ∷ rs) ≡ cond (is_of_row w r) 1 0 + count_by (λ t. is_of_row w t) rs = sum_by-cons (λ t. cond (is_of_row w t) 1 0) r rs in
    at_most_one_of (is_of_row w r) (count_by (λ t. is_of_row w t) rs) _ head none later

rows_apart : are_apart rows ≡ true
unfolding rows
rows_apart = refl

pub rows_unambiguous : IsUnambiguous rows
rows_unambiguous = at_most_one rows rows_apart

-- ---- where a word is of a row, that row is the first

apart_at : (r s : Row) (rs : List Row) (i : ℕ) → is_apart_from_all r rs ≡ true → slice_get rs i ≡ Some s → is_apart r s ≡ true
apart_at r s [] i apart at = absurd (search (rules, at))
apart_at r s (t ∷ rs) zero apart at =
    sym (ap (λ o. is_apart r (unwrap_or o t)) at) ∙ (and_parts (is_apart r t) (is_apart_from_all r rs) apart).0
apart_at r s (t ∷ rs) (suc i) apart at = apart_at r s rs i (and_parts (is_apart r t) (is_apart_from_all r rs) apart).1 at

first_at : (w : ℕ) (r : Row) (rs : List Row) (i : ℕ) → are_apart rs ≡ true → slice_get rs i ≡ Some r → is_of_row w r ≡ true → first_row rs w ≡ Some (r.read w)
first_at w r [] i apart at of_r = absurd (search (rules, at))
first_at w r (s ∷ rs) zero apart at of_r =
    let here : is_of_row w s ≡ true = ap (λ o. is_of_row w (unwrap_or o s)) at ∙ of_r in
    ap (λ b. cond b (Some (s.read w)) (first_row rs w)) here ∙ ap (λ o. Some ((unwrap_or o s).read w)) at
first_at w r (s ∷ rs) (suc i) apart at of_r =
    let apart_here : is_apart s r ≡ true = apart_at s r rs i (and_parts (is_apart_from_all s rs) (are_apart rs) apart).0 at in
    let here : is_of_row w s ≡ false = false_unless_true (is_of_row w s) (λ of_s. not_both w s r apart_here of_s of_r) in
    ap (λ b. cond b (Some (s.read w)) (first_row rs w)) here ∙ first_at w r rs i (and_parts (is_apart_from_all s rs) (are_apart rs) apart).1 at of_r

-- the instruction of a word that is of a row: that of this row, wherever it stands
pub row_of-at : (w : ℕ) (r : Row) (i : ℕ) → slice_get rows i ≡ Some r → is_of_row w r ≡ true → row_of w ≡ Some (r.read w)
unfolding row_of
row_of-at w r i at of_r = first_at w r rows i rows_apart at of_r
