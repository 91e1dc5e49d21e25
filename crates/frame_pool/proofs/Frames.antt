-- The frames that a pool shows of its region.
use Rattle.std.proofs.Common.{◌≡◌, ℕ, zero, suc, Bool, true, false, List, [], ◌∷◌, Some, length, get_or, slice_get, slice_set, refl, sym, ap, ◌∙◌, arith}
use Rattle.std.proofs.lemmas.List.{set-get_or}
use Rattle.frame_pool.proofs.Places.{slice_set-same}
use Rattle.frame_pool.specs.Layout.{frame_of, frames_of}

pub length-frames_of : (taken : List Bool) (region : List (List ℕ)) → length region ≡ length taken
    → length (frames_of taken region) ≡ length taken
length-frames_of [] region same = refl
length-frames_of (t ∷ taken) [] same = omega arith
length-frames_of (t ∷ taken) (bytes ∷ region) same = ap suc (length-frames_of taken region (omega arith))

-- each frame is that of its mark and its bytes
pub frames_of-at : (taken : List Bool) (region : List (List ℕ)) (n : ℕ) (t : Bool) (bytes : List ℕ)
    → slice_get taken n ≡ Some t → slice_get region n ≡ Some bytes → slice_get (frames_of taken region) n ≡ Some (frame_of t bytes)
frames_of-at [] region n t bytes mark here = cc
frames_of-at (u ∷ taken) [] n t bytes mark here = cc
frames_of-at (u ∷ taken) (other ∷ region) zero t bytes mark here = cc
frames_of-at (u ∷ taken) (other ∷ region) (suc n) t bytes mark here = frames_of-at taken region n t bytes mark here

-- what is marked, and what stands in the region, where a frame is taken
pub frames_of-taken : (taken : List Bool) (region : List (List ℕ)) (n : ℕ) (bytes : List ℕ)
    → slice_get (frames_of taken region) n ≡ Some (Some bytes) → (slice_get taken n ≡ Some true) × (slice_get region n ≡ Some bytes)
frames_of-taken [] region n bytes here = absurd (cc)
frames_of-taken (t ∷ taken) [] n bytes here = absurd (cc)
frames_of-taken (true ∷ taken) (other ∷ region) zero bytes here = (refl, cc)
frames_of-taken (false ∷ taken) (other ∷ region) zero bytes here = absurd (cc)
frames_of-taken (t ∷ taken) (other ∷ region) (suc n) bytes here = frames_of-taken taken region n bytes here

-- one frame is written
pub frames_of-set : (taken : List Bool) (region : List (List ℕ)) (n : ℕ) (t : Bool) (bytes : List ℕ)
    → frames_of (slice_set taken n t) (slice_set region n bytes) ≡ slice_set (frames_of taken region) n (frame_of t bytes)
frames_of-set [] region n t bytes = refl
frames_of-set (u ∷ taken) [] zero t bytes = refl
frames_of-set (u ∷ taken) [] (suc n) t bytes = refl
frames_of-set (u ∷ taken) (other ∷ region) zero t bytes = refl
frames_of-set (u ∷ taken) (other ∷ region) (suc n) t bytes = ap (λ frames. frame_of u other ∷ frames) (frames_of-set taken region n t bytes)

-- one frame is marked
pub frames_of-mark : (taken : List Bool) (region : List (List ℕ)) (n : ℕ) (t : Bool)
    → frames_of (slice_set taken n t) region ≡ slice_set (frames_of taken region) n (frame_of t (get_or region n []))
frames_of-mark taken region n t =
    ap (frames_of (slice_set taken n t)) (sym (set-get_or region n [])) ∙ frames_of-set taken region n t (get_or region n [])

-- the bytes of a frame are written
pub frames_of-write : (taken : List Bool) (region : List (List ℕ)) (n : ℕ) (bytes : List ℕ) → slice_get taken n ≡ Some true
    → frames_of taken (slice_set region n bytes) ≡ slice_set (frames_of taken region) n (Some bytes)
frames_of-write taken region n bytes mark =
    ap (λ marks. frames_of marks (slice_set region n bytes)) (sym (slice_set-same taken n true mark)) ∙ frames_of-set taken region n true bytes
