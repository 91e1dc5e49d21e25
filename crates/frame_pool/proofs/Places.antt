-- What stands in a list where a place was written, or where others follow.
use Rattle.std.proofs.Common.{◌≡◌, ◌≢◌, ℕ, zero, suc, ◌<◌, List, [], ◌∷◌, ◌++◌, Some, length, slice_get, slice_set, refl, ap, arith}

pub slice_get-set_same : {X : Type 0} (xs : List X) (i : ℕ) (x y : X) → slice_get xs i ≡ Some x → slice_get (slice_set xs i y) i ≡ Some y
slice_get-set_same [] i x y here = cc
slice_get-set_same (z ∷ xs) zero x y here = refl
slice_get-set_same (z ∷ xs) (suc i) x y here = slice_get-set_same xs i x y here

pub slice_get-set_other : {X : Type 0} (xs : List X) (i j : ℕ) (y : X) → j ≢ i → slice_get (slice_set xs i y) j ≡ slice_get xs j
slice_get-set_other [] i j y other = refl
slice_get-set_other (z ∷ xs) zero zero y other = absurd (other refl)
slice_get-set_other (z ∷ xs) zero (suc j) y other = refl
slice_get-set_other (z ∷ xs) (suc i) zero y other = refl
slice_get-set_other (z ∷ xs) (suc i) (suc j) y other = slice_get-set_other xs i j y (λ e. other (ap suc e))

-- what stands there already changes nothing
pub slice_set-same : {X : Type 0} (xs : List X) (i : ℕ) (x : X) → slice_get xs i ≡ Some x → slice_set xs i x ≡ xs
slice_set-same [] i x here = refl
slice_set-same (z ∷ xs) zero x here = cc
slice_set-same (z ∷ xs) (suc i) x here = ap (λ ys. z ∷ ys) (slice_set-same xs i x here)

-- what stands among the first of two lists
pub slice_get-append_left : {X : Type 0} (xs ys : List X) (i : ℕ) → i < length xs → slice_get (xs ++ ys) i ≡ slice_get xs i
slice_get-append_left [] ys i within = absurd (omega arith)
slice_get-append_left (x ∷ xs) ys zero within = refl
slice_get-append_left (x ∷ xs) ys (suc i) within = slice_get-append_left xs ys i (omega arith)

-- what stands first behind them
pub slice_get-append_seam : {X : Type 0} (xs : List X) (y : X) (ys : List X) → slice_get (xs ++ y ∷ ys) (length xs) ≡ Some y
slice_get-append_seam [] y ys = refl
slice_get-append_seam (x ∷ xs) y ys = slice_get-append_seam xs y ys
