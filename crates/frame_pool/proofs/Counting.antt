-- How many frames of a pool are free, and how many taken.
use Rattle.std.proofs.Common.{◌≡◌, ℕ, zero, suc, ◌+◌, List, [], ◌∷◌, Option, Some, None, cond, replicate, is_none, is_some, length, slice_get, slice_set, get_or, refl, arith}
use Rattle.std.proofs.lemmas.List.Sums.{sum_by-cons, sum_by-set}
use Rattle.std.proofs.lemmas.Option.{slice_get_within, get_or_from_slice_get}
use Rattle.frame_pool.specs.Pool.{IsTaken, free_count, taken_count}

abbrev pub one_free : Option (List ℕ) → ℕ
one_free frame = cond (is_none frame) 1 0

abbrev one_taken : Option (List ℕ) → ℕ
one_taken frame = cond (is_some frame) 1 0

pub free_count-add-taken_count : (pool : List (Option (List ℕ))) → free_count pool + taken_count pool ≡ length pool
free_count-add-taken_count [] = refl
free_count-add-taken_count (None ∷ pool) =
    omega (arith, sum_by-cons one_free None pool, sum_by-cons one_taken None pool, free_count-add-taken_count pool)
free_count-add-taken_count (Some bytes ∷ pool) =
    omega (arith, sum_by-cons one_free (Some bytes) pool, sum_by-cons one_taken (Some bytes) pool, free_count-add-taken_count pool)

pub free_count-taking : (pool : List (Option (List ℕ))) (n : ℕ) (bytes : List ℕ) → slice_get pool n ≡ Some None
    → free_count (slice_set pool n (Some bytes)) + 1 ≡ free_count pool
free_count-taking pool n bytes free =
    let frame : get_or pool n None ≡ None = get_or_from_slice_get pool n None None free in
    let counts = rw frame at (sum_by-set one_free pool n (Some bytes) None (slice_get_within pool n None free)) in
    omega arith

pub free_count-giving : (pool : List (Option (List ℕ))) (n : ℕ) → IsTaken pool n
    → free_count (slice_set pool n None) ≡ free_count pool + 1
free_count-giving pool n taken =
    let frame : get_or pool n None ≡ Some taken.0 = get_or_from_slice_get pool n (Some taken.0) None taken.1 in
    let counts = rw frame at (sum_by-set one_free pool n None None (slice_get_within pool n (Some taken.0) taken.1)) in
    omega arith

pub taken_count-giving : (pool : List (Option (List ℕ))) (n : ℕ) → IsTaken pool n
    → taken_count (slice_set pool n None) + 1 ≡ taken_count pool
taken_count-giving pool n taken =
    let frame : get_or pool n None ≡ Some taken.0 = get_or_from_slice_get pool n (Some taken.0) None taken.1 in
    let counts = rw frame at (sum_by-set one_taken pool n None None (slice_get_within pool n (Some taken.0) taken.1)) in
    omega arith

-- bytes are written to a taken frame
pub free_count-writing : (pool : List (Option (List ℕ))) (n : ℕ) (bytes : List ℕ) → IsTaken pool n
    → free_count (slice_set pool n (Some bytes)) ≡ free_count pool
free_count-writing pool n bytes taken =
    let frame : get_or pool n None ≡ Some taken.0 = get_or_from_slice_get pool n (Some taken.0) None taken.1 in
    let counts = rw frame at (sum_by-set one_free pool n (Some bytes) None (slice_get_within pool n (Some taken.0) taken.1)) in
    omega arith

-- all frames of a new pool are free
pub free_count-replicate : (n : ℕ) → free_count (replicate n None) ≡ n
free_count-replicate zero = refl
free_count-replicate (suc n) = omega (arith, sum_by-cons one_free None (replicate n None), free_count-replicate n)
