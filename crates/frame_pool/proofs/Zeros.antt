-- The frames that have bytes, and then others that have zeros.
use Rattle.std.proofs.Common.{◌≡◌, ℕ, zero, suc, ◌+◌, ◌-◌, ◌<◌, ◌≤◌, List, [], ◌∷◌, ◌++◌, length, replicate, slice_set, refl, sym, ap, ◌∙◌, arith, length-append}
use Rattle.std.proofs.lemmas.List.{append_assoc, append-nil, length-replicate, length-set}
use Rattle.frame_pool.specs.Layout.{with_zeros}
use Rattle.frame_pool.specs.Pool.{fresh}

replicate-more : {X : Type 0} (n : ℕ) (x : X) → replicate n x ++ x ∷ [] ≡ replicate (suc n) x
replicate-more zero x = refl
replicate-more (suc n) x = ap (λ xs. x ∷ xs) (replicate-more n x)

module _ (count : ℕ) (region : List (List ℕ)) where
  pub length-with_zeros : length region ≤ count → length (with_zeros count region) ≡ count
  length-with_zeros few =
      omega (arith, length-append region (replicate (count - length region) fresh), length-replicate (count - length region) fresh)

  pub with_zeros-enough : count ≤ length region → with_zeros count region ≡ region
  with_zeros-enough many =
      let none : count - length region ≡ 0 = omega arith in
      ap (λ (n : ℕ). region ++ replicate n fresh) none ∙ append-nil region

  -- one frame more
  pub with_zeros-more : length region ≤ count → with_zeros (count + 1) region ≡ with_zeros count region ++ fresh ∷ []
  with_zeros-more few =
      let one : count + 1 - length region ≡ suc (count - length region) = omega arith in
      ap (λ (k : ℕ). region ++ replicate k fresh) one
      ∙ ap (λ (zeros : List (List ℕ)). region ++ zeros) (sym (replicate-more (count - length region) fresh))
      ∙ sym (append_assoc region (replicate (count - length region) fresh) (fresh ∷ []))

  -- none is lost
  pub with_zeros-least : (count ≤ length (with_zeros count region)) × (length region ≤ length (with_zeros count region))
  with_zeros-least =
      let zeros : List (List ℕ) = replicate (count - length region) fresh in
      let size : length (with_zeros count region) ≡ length region + (count - length region) =
      length-append region zeros ∙ ap (λ (k : ℕ). length region + k) (length-replicate (count - length region) fresh) in
      (omega arith, omega arith)
