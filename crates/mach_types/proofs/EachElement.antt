-- Lists of which each element has something, and lists without two equal elements.
use Rattle.std.proofs.Common.{◌≡◌, ℕ, Bool, true, false, cond, List, [], ◌∷◌, ◌++◌, map, filter, eqb}
use Rattle.std.specs.List.{AllByRecursion, IsDistinct}

module _ {X : Type 0} (P : X → Type 0) where
  pub AllByRecursion-push : (xs : List X) (y : X) → AllByRecursion P xs → P y → AllByRecursion P (xs ++ y ∷ [])
  AllByRecursion-push [] y each last = (last, tt)
  AllByRecursion-push (x ∷ xs) y each last = (each.0, AllByRecursion-push xs y each.1 last)

  pub AllByRecursion-filter : (test : X → Bool) (xs : List X) → AllByRecursion P xs → AllByRecursion P (filter test xs)
  AllByRecursion-filter test [] each = tt
  AllByRecursion-filter test (x ∷ xs) each =
      let rest = AllByRecursion-filter test xs each.1 in
      elim (test x) as (λ b. AllByRecursion P (cond b (x ∷ filter test xs) (filter test xs))) [ true ↦ (each.0, rest) | false ↦ rest ]

  pub AllByRecursion-map : (f : X → X) → ((x : X) → P x → P (f x)) → (xs : List X) → AllByRecursion P xs → AllByRecursion P (map f xs)
  AllByRecursion-map f keeps [] each = tt
  AllByRecursion-map f keeps (x ∷ xs) each = (keeps x each.0, AllByRecursion-map f keeps xs each.1)

  pub AllByRecursion-weaker : (Q : X → Type 0) → ((x : X) → P x → Q x) → (xs : List X) → AllByRecursion P xs → AllByRecursion Q xs
  AllByRecursion-weaker Q weaker [] each = tt
  AllByRecursion-weaker Q weaker (x ∷ xs) each = (weaker x each.0, AllByRecursion-weaker Q weaker xs each.1)

pub IsDistinct-filter : {X : Type 0} (same : X → X → Bool) (test : X → Bool) (xs : List X) → IsDistinct same xs → IsDistinct same (filter test xs)
unfolding IsDistinct
IsDistinct-filter same test [] once = tt
IsDistinct-filter same test (x ∷ xs) once =
    let first = AllByRecursion-filter (λ y. same x y ≡ false) test xs once.0 in
    let rest = IsDistinct-filter same test xs once.1 in
    elim (test x) as (λ b. IsDistinct same (cond b (x ∷ filter test xs) (filter test xs))) [ true ↦ (first, rest) | false ↦ rest ]

pub IsDistinct-one : (n : ℕ) → IsDistinct eqb (n ∷ [])
unfolding IsDistinct
IsDistinct-one n = (tt, tt)
