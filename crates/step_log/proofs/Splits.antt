-- A text that is cut at the first place of a byte.
use Rattle.std.proofs.Common.{◌≡◌, ℕ, ◌+◌, Bool, true, false, not, cond, ltb, List, [], ◌∷◌, length, take, drop, Some, None, refl, ap, ◌∙◌, arith}
use Rattle.std.specs.List.{slice_split, onto_first, position, position_or_len}
use Rattle.std.proofs.lemmas.List.Quantifiers.{position-Some}
use Rattle.std.proofs.lemmas.List.Splits.{slice_split-cons_no, slice_split_first}
use Rattle.std.proofs.lemmas.List.Sums.{position_or_len_is, prefix_len-le-length}
use Rattle.std.proofs.lemmas.Bool.{ltb-false}

none_is_false : (b : Bool) (n : ℕ) → cond b (Some n) None ≡ None → b ≡ false
none_is_false true n e = cc
none_is_false false n e = refl

module _ {X : Type 0} (p : X → Bool) where
  -- where none passes, the list is the one part
  uncut : (xs : List X) → position_or_len p xs ≡ length xs → slice_split p xs ≡ xs ∷ []
  uncut [] e = refl
  uncut (x ∷ xs) e = go (p x) refl (uncut xs)
    where
      go : (b : Bool) → p x ≡ b → (position_or_len p xs ≡ length xs → slice_split p xs ≡ xs ∷ []) → slice_split p (x ∷ xs) ≡ (x ∷ xs) ∷ []
      go true q rest = let none = rw q at e in absurd (omega arith)
      go false q rest = let more = rw q at e in slice_split-cons_no p x xs q ∙ ap (onto_first x) (rest (omega arith))

  pub slice_split-None : (xs : List X) → position p xs ≡ None → slice_split p xs ≡ xs ∷ []
  slice_split-None xs e =
      let past = ltb-false (position_or_len p xs) (length xs) (none_is_false (ltb (position_or_len p xs) (length xs)) (position_or_len p xs) e) in
      uncut xs (omega (arith, prefix_len-le-length (λ x. not (p x)) xs))

  pub slice_split-Some : (xs : List X) (i : ℕ) (d : X) → position p xs ≡ Some i
      → slice_split p xs ≡ take i xs ∷ slice_split p (drop (i + 1) xs)
  slice_split-Some xs i d e =
      let found = position-Some p xs i d e in
      let place = position_or_len_is p xs i d (omega arith) found.2 (λ _. found.1) in
      slice_split_first p xs d (omega arith) ∙ ap (λ k. take k xs ∷ slice_split p (drop (k + 1) xs)) place
