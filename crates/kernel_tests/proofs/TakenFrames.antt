-- Frames that stay taken where one is written, and a pool in which a frame is given back as it was.
use Rattle.std.proofs.Common.{◌≡◌, ℕ, zero, suc, List, [], ◌∷◌, Option, Some, slice_get, slice_set, refl, ap, ⊎_elim}
use Rattle.std.proofs.lemmas.Bool.{cases_eq}
use Rattle.frame_pool.proofs.Laws.{IsTaken-here, IsTaken-other}
use Rattle.frame_pool.specs.Pool.{IsTaken}

-- a taken frame stays taken, whatever bytes are written to a frame
pub IsTaken-written : (pool : List (Option (List ℕ))) (n other : ℕ) (bytes : List ℕ) → IsTaken pool other
    → IsTaken (slice_set pool n (Some bytes)) other
IsTaken-written pool n other bytes held =
    ⊎_elim
    (λ (same : other ≡ n). rw same (IsTaken-here pool n (Some held.0) bytes (rw (← same) held.1)))
    (λ (two : other ≡ n → ⊥). IsTaken-other pool n other (Some bytes) held two)
    (cases_eq other n)

-- what stands at a place, written there, changes nothing
pub slice_set-same : {X : Type 0} (xs : List X) (i : ℕ) (x : X) → slice_get xs i ≡ Some x → slice_set xs i x ≡ xs
slice_set-same [] i x here = refl
slice_set-same (z ∷ xs) zero x here = cc
slice_set-same (z ∷ xs) (suc i) x here = ap (λ ys. z ∷ ys) (slice_set-same xs i x here)
