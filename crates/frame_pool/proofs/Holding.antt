-- Which frames stay taken.
use Rattle.std.proofs.Common.{◌≡◌, ◌≢◌, ℕ, List, Option, Some, None, slice_get, slice_set, ◌∙◌, ⊎_elim}
use Rattle.std.proofs.lemmas.Bool.{cases_eq}
use Rattle.frame_pool.proofs.Places.{slice_get-set_other, slice_get-set_same}
use Rattle.frame_pool.specs.Pool.{IsTaken}

-- a frame that is of the pool is taken once it has bytes
pub IsTaken-here : (pool : List (Option (List ℕ))) (n : ℕ) (frame : Option (List ℕ)) (bytes : List ℕ) → slice_get pool n ≡ Some frame
    → IsTaken (slice_set pool n (Some bytes)) n
IsTaken-here pool n frame bytes here = (bytes, slice_get-set_same pool n frame (Some bytes) here)

-- a taken frame stays taken, whatever is done to another one
pub IsTaken-other : (pool : List (Option (List ℕ))) (n other : ℕ) (frame : Option (List ℕ)) → IsTaken pool other → other ≢ n
    → IsTaken (slice_set pool n frame) other
IsTaken-other pool n other frame held two = (held.0, slice_get-set_other pool n other frame two ∙ held.1)

-- it isn't one that is free
pub IsTaken-apart : (pool : List (Option (List ℕ))) (n other : ℕ) → IsTaken pool other → slice_get pool n ≡ Some None → other ≢ n
IsTaken-apart pool n other held free same = let e : slice_get pool n ≡ Some (Some held.0) = rw (← same) held.1 in cc

-- it stays taken where bytes are written to any frame, and where a free frame is taken
pub IsTaken-kept : (pool : List (Option (List ℕ))) (n other : ℕ) (bytes : List ℕ) → IsTaken pool other
    → IsTaken (slice_set pool n (Some bytes)) other
IsTaken-kept pool n other bytes held =
    ⊎_elim
    (λ (same : other ≡ n). rw same (IsTaken-here pool n (Some held.0) bytes (rw (← same) held.1)))
    (λ (two : other ≡ n → ⊥). IsTaken-other pool n other (Some bytes) held two)
    (cases_eq other n)
