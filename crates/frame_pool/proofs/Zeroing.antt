-- A pool whose taken frames have zero bytes again.
use Rattle.std.proofs.Common.{◌≡◌, ℕ, zero, suc, ◌-◌, Bool, true, false, List, [], ◌∷◌, ◌++◌, Option, Some, None, length, replicate, slice_get, slice_set, refl, sym, ap, ◌∙◌, subst, arith}
use Rattle.std.specs.Option.{option_map}
use Rattle.std.proofs.lemmas.List.{length-replicate, map-append, map-set}
use Rattle.std.proofs.lemmas.List.Sums.{sum_by-cons}
use Rattle.std.proofs.lemmas.Option.{slice_get-map}
use Rattle.frame_pool.proofs.Counting.{one_free}
use Rattle.frame_pool.specs.Held.{AreHeld}
use Rattle.frame_pool.specs.Layout.{frame_of, frames_of, pool_of}
use Rattle.frame_pool.specs.Pool.{IsTaken, free_count, fresh, zeroed}

abbrev zeroed_frame : Option (List ℕ) → Option (List ℕ)
zeroed_frame frame = option_map (λ (_ : List ℕ). fresh) frame

-- a taken frame
pub zeroed-at : (pool : List (Option (List ℕ))) (n : ℕ) → IsTaken pool n → slice_get (zeroed pool) n ≡ Some (Some fresh)
zeroed-at pool n taken = slice_get-map zeroed_frame pool n ∙ ap (option_map zeroed_frame) taken.1

-- as many frames are free
pub free_count-zeroed : (pool : List (Option (List ℕ))) → free_count (zeroed pool) ≡ free_count pool
free_count-zeroed [] = refl
free_count-zeroed (None ∷ pool) = omega (arith, sum_by-cons one_free None pool, sum_by-cons one_free None (zeroed pool), free_count-zeroed pool)
free_count-zeroed (Some bytes ∷ pool) =
    omega (arith, sum_by-cons one_free (Some bytes) pool, sum_by-cons one_free (Some fresh) (zeroed pool), free_count-zeroed pool)

-- a holder has the same frames
pub AreHeld-zeroed : (pool : List (Option (List ℕ))) (frames : List ℕ) → AreHeld pool frames → AreHeld (zeroed pool) frames
AreHeld-zeroed pool [] held = tt
AreHeld-zeroed pool (n ∷ rest) held = (
  (fresh, zeroed-at pool n held.0),
  subst (λ (p : List (Option (List ℕ))). AreHeld p rest) (map-set zeroed_frame pool n None) (AreHeld-zeroed (slice_set pool n None) rest held.1),
)

frame_of-zeroed : (taken : Bool) (bytes : List ℕ) → frame_of taken fresh ≡ zeroed_frame (frame_of taken bytes)
frame_of-zeroed true bytes = refl
frame_of-zeroed false bytes = refl

frames_of-zeroed : (taken : List Bool) (region : List (List ℕ)) → length region ≡ length taken
    → frames_of taken (replicate (length taken) fresh) ≡ zeroed (frames_of taken region)
frames_of-zeroed [] region same = refl
frames_of-zeroed (t ∷ taken) [] same = absurd (omega arith)
frames_of-zeroed (t ∷ taken) (bytes ∷ region) same =
    ap (λ (frame : Option (List ℕ)). frame ∷ frames_of taken (replicate (length taken) fresh)) (frame_of-zeroed t bytes)
    ∙ ap (λ (frames : List (Option (List ℕ))). zeroed_frame (frame_of t bytes) ∷ frames) (frames_of-zeroed taken region (omega arith))

spare-zeroed : (n : ℕ) → zeroed (replicate n None) ≡ replicate n None
spare-zeroed zero = refl
spare-zeroed (suc n) = ap (λ (frames : List (Option (List ℕ))). None ∷ frames) (spare-zeroed n)

-- what lies in memory is zero
pub pool_of-zeroed : (frames : ℕ) (taken : List Bool) (region : List (List ℕ)) → length region ≡ length taken
    → pool_of frames taken (replicate (length taken) fresh) ≡ zeroed (pool_of frames taken region)
pool_of-zeroed frames taken region same =
    let size : length (replicate (length taken) fresh) ≡ length region = length-replicate (length taken) fresh ∙ sym same in
    ap (λ (k : ℕ). let q : List (Option (List ℕ)) = frames_of taken (replicate (length taken) fresh) ++ replicate (frames - k) None in q) size
    ∙ ap (λ (front : List (Option (List ℕ))). front ++ replicate (frames - length region) None) (frames_of-zeroed taken region same)
    ∙ ap (λ (spare : List (Option (List ℕ))). zeroed (frames_of taken region) ++ spare) (sym (spare-zeroed (frames - length region)))
    ∙ sym (map-append zeroed_frame (frames_of taken region) (replicate (frames - length region) None))
