-- All frames of a pool: those of the region, and then those that were never taken.
use Rattle.std.proofs.Common.{◌≡◌, ℕ, zero, suc, ◌+◌, ◌-◌, ◌<◌, ◌≤◌, Bool, true, List, [], ◌∷◌, ◌++◌, Option, Some, None, length, replicate, slice_get, slice_set, refl, sym, ap, ◌∙◌, arith, length-append}
use Rattle.std.proofs.lemmas.List.{length-replicate, set-append_left}
use Rattle.std.proofs.lemmas.List.Sums.{sum_by-append}
use Rattle.frame_pool.proofs.Counting.{free_count-replicate, one_free}
use Rattle.frame_pool.proofs.Frames.{length-frames_of}
use Rattle.frame_pool.proofs.Places.{slice_get-append_left, slice_get-append_seam}
use Rattle.frame_pool.specs.Layout.{frame_of, frames_of, pool_of}
use Rattle.frame_pool.specs.Pool.{free_count}

pub length-pool_of : (frames : ℕ) (taken : List Bool) (region : List (List ℕ)) → length region ≡ length taken → length region ≤ frames
    → length (pool_of frames taken region) ≡ frames
length-pool_of frames taken region same within =
    let spare : List (Option (List ℕ)) = replicate (frames - length region) None in
    let behind : length spare ≡ frames - length region = length-replicate (frames - length region) None in
    omega (arith, length-append (frames_of taken region) spare, length-frames_of taken region same)

pub free_count-pool_of : (frames : ℕ) (taken : List Bool) (region : List (List ℕ))
    → free_count (pool_of frames taken region) ≡ free_count (frames_of taken region) + (frames - length region)
free_count-pool_of frames taken region =
    let spare : List (Option (List ℕ)) = replicate (frames - length region) None in
    omega (arith, sum_by-append one_free (frames_of taken region) spare, free_count-replicate (frames - length region))

-- a frame of the region stands where it stood
pub pool_of-at : (frames : ℕ) (taken : List Bool) (region : List (List ℕ)) (n : ℕ) → n < length (frames_of taken region)
    → slice_get (pool_of frames taken region) n ≡ slice_get (frames_of taken region) n
pool_of-at frames taken region n within = slice_get-append_left (frames_of taken region) (replicate (frames - length region) None) n within

none_behind : (k n : ℕ) (bytes : List ℕ) → let none : Option (List ℕ) = None in slice_get (replicate k none) n ≡ Some (Some bytes) → ⊥
none_behind zero n bytes held = cc
none_behind (suc k) zero bytes held = cc
none_behind (suc k) (suc n) bytes held = none_behind k n bytes held

taken_before : (front : List (Option (List ℕ))) (k n : ℕ) (bytes : List ℕ) → slice_get (front ++ replicate k None) n ≡ Some (Some bytes)
    → slice_get front n ≡ Some (Some bytes)
taken_before [] k n bytes held = absurd (none_behind k n bytes held)
taken_before (frame ∷ front) k zero bytes held = held
taken_before (frame ∷ front) k (suc n) bytes held = taken_before front k n bytes held

-- a taken frame is of the region
pub pool_of-taken : (frames : ℕ) (taken : List Bool) (region : List (List ℕ)) (n : ℕ) (bytes : List ℕ)
    → slice_get (pool_of frames taken region) n ≡ Some (Some bytes) → slice_get (frames_of taken region) n ≡ Some (Some bytes)
pool_of-taken frames taken region n bytes held = taken_before (frames_of taken region) (frames - length region) n bytes held

-- one frame of the region changes
pub pool_of-set : (frames : ℕ) (taken marks : List Bool) (region after : List (List ℕ)) (n : ℕ) (frame : Option (List ℕ))
    → length after ≡ length region → n < length (frames_of taken region)
    → frames_of marks after ≡ slice_set (frames_of taken region) n frame
    → pool_of frames marks after ≡ slice_set (pool_of frames taken region) n frame
pool_of-set frames taken marks region after n frame size within change =
    ap (λ (k : ℕ). frames_of marks after ++ replicate (frames - k) None) size
    ∙ ap (λ (front : List (Option (List ℕ))). front ++ replicate (frames - length region) None) change
    ∙ sym (set-append_left (frames_of taken region) (replicate (frames - length region) None) n frame within)

frames_of-push : (taken : List Bool) (region : List (List ℕ)) (bytes : List ℕ) (spare : List (Option (List ℕ))) → length region ≡ length taken
    → frames_of (taken ++ true ∷ []) (region ++ bytes ∷ []) ++ spare ≡ slice_set (frames_of taken region ++ None ∷ spare) (length region) (Some bytes)
frames_of-push [] [] bytes spare same = refl
frames_of-push [] (other ∷ region) bytes spare same = absurd (omega arith)
frames_of-push (t ∷ taken) [] bytes spare same = absurd (omega arith)
frames_of-push (t ∷ taken) (other ∷ region) bytes spare same =
    ap (λ frames. frame_of t other ∷ frames) (frames_of-push taken region bytes spare (omega arith))

-- the first frame that was never taken
pub pool_of-next : (frames : ℕ) (taken : List Bool) (region : List (List ℕ)) → length region ≡ length taken → length region < frames
    → slice_get (pool_of frames taken region) (length region) ≡ Some None
pool_of-next frames taken region same more =
    let front : List (Option (List ℕ)) = frames_of taken region in
    let one : frames - length region ≡ suc (frames - length region - 1) = omega arith in
    let here : length region ≡ length front = same ∙ sym (length-frames_of taken region same) in
    ap (λ (k : ℕ). slice_get (front ++ replicate k None) (length region)) one
    ∙ ap (λ (k : ℕ). slice_get (front ++ None ∷ replicate (frames - length region - 1) None) k) here
    ∙ slice_get-append_seam front None (replicate (frames - length region - 1) None)

-- it is taken
pub pool_of-push : (frames : ℕ) (taken : List Bool) (region : List (List ℕ)) (bytes : List ℕ) → length region ≡ length taken
    → length region < frames
    → pool_of frames (taken ++ true ∷ []) (region ++ bytes ∷ []) ≡ slice_set (pool_of frames taken region) (length region) (Some bytes)
pool_of-push frames taken region bytes same more =
    let rest : ℕ = frames - length (region ++ bytes ∷ []) in
    let one : suc rest ≡ frames - length region = omega (arith, length-append region (bytes ∷ [])) in
    frames_of-push taken region bytes (replicate rest None) same
    ∙ ap (λ (k : ℕ). slice_set (frames_of taken region ++ replicate k None) (length region) (Some bytes)) one
