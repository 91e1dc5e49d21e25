-- Elements of a list by their index: in a list that is made of two, and in one that is changed by a function.
use Rattle.std.proofs.Common.{◌≡◌, ℕ, zero, suc, ◌+◌, List, [], ◌∷◌, ◌++◌, length, map, slice_get, refl, ap, ◌∙◌, arith, Some}
use Rattle.std.specs.Option.{option_map}
use Rattle.std.proofs.lemmas.Option.{slice_get-map}

-- where an element of two lists comes from
pub data ComesFrom {X : Type 0} (xs ys : List X) (i : ℕ) (x : X) : Type 0 where
  InFirst : slice_get xs i ≡ Some x → ComesFrom xs ys i x
  InSecond : (k : ℕ) → i ≡ length xs + k → slice_get ys k ≡ Some x → ComesFrom xs ys i x

one_further : {X : Type 0} {xs ys : List X} {i : ℕ} {x y : X} → ComesFrom xs ys i x → ComesFrom (y ∷ xs) ys (suc i) x
one_further (InFirst at) = InFirst at
one_further (InSecond k place at) = InSecond k (omega arith) at

-- each element comes from one of both
pub comes_from : {X : Type 0} (xs ys : List X) (i : ℕ) (x : X) → slice_get (xs ++ ys) i ≡ Some x → ComesFrom xs ys i x
comes_from [] ys i x at = InSecond i (omega arith) at
comes_from (y ∷ xs) ys zero x at = InFirst at
comes_from (y ∷ xs) ys (suc i) x at = one_further (comes_from xs ys i x at)

-- an element of the first list
pub in_first : {X : Type 0} (xs ys : List X) (i : ℕ) (x : X) → slice_get xs i ≡ Some x → slice_get (xs ++ ys) i ≡ Some x
in_first [] ys i x at = absurd cc
in_first (y ∷ xs) ys zero x at = at
in_first (y ∷ xs) ys (suc i) x at = in_first xs ys i x at

-- the first element of the second list
pub at_seam : {X : Type 0} (xs ys : List X) (x : X) → slice_get (xs ++ x ∷ ys) (length xs) ≡ Some x
at_seam [] ys x = refl
at_seam (y ∷ xs) ys x = at_seam xs ys x

-- an element that is changed
pub in_changed : {X Y : Type 0} (f : X → Y) (xs : List X) (i : ℕ) (x : X) → slice_get xs i ≡ Some x → slice_get (map f xs) i ≡ Some (f x)
in_changed f xs i x at = slice_get-map f xs i ∙ ap (option_map f) at

-- an element of a list that is changed comes from the one at its index
pub record IsChanged {X Y : Type 0} (f : X → Y) (xs : List X) (i : ℕ) (y : Y) : Type 0 where
  pub from : X
  pub at : slice_get xs i ≡ Some from
  pub is : f from ≡ y

-- each element of the changed list does
pub changed : {X Y : Type 0} (f : X → Y) (xs : List X) (i : ℕ) (y : Y) → slice_get (map f xs) i ≡ Some y → IsChanged f xs i y
changed f [] i y at = absurd cc
changed f (x ∷ xs) zero y at = record { from = x; at = refl; is = cc }
changed f (x ∷ xs) (suc i) y at =
    let rest = changed f xs i y at in
    record { from = rest.from; at = rest.at; is = rest.is }
