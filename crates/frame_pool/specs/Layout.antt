-- How a pool lies in memory (own): in order of their numbers the bytes of the first frames, as far as one was ever
-- written; which frames were written since they were taken, and since all were made zero; which of the frames that were
-- ever taken are taken now, and a stack of the numbers of the others. A frame that wasn't written has zeros. The frames
-- past those that were ever taken were never taken.
use Rattle.std.specs.Prelude.{◌≡◌, ◌-◌, ◌<◌, ◌≤◌, ◌^◌, ℕ, Bool, true, false, List, [], ◌∷◌, ◌++◌, Option, Some, None, if◌then◌else◌, length, replicate, slice_get, slice_set}
use Rattle.std.specs.List.{AllByRecursion}
use Rattle.frame_pool.specs.Pool.{fresh}

-- a frame of the region
abbrev pub frame_of : Bool → List ℕ → Option (List ℕ)
frame_of taken bytes = if taken then Some bytes else None

-- the frames of the region, in order
abbrev pub frames_of : List Bool → List (List ℕ) → List (Option (List ℕ))
frames_of [] frames = []
frames_of (t ∷ ts) [] = []
frames_of (t ∷ ts) (bytes ∷ frames) = frame_of t bytes ∷ frames_of ts frames

-- so many frames at least: those with bytes, and then others that have zeros
abbrev pub with_zeros : ℕ → List (List ℕ) → List (List ℕ)
with_zeros count region = region ++ replicate (count - length region) fresh

-- the bytes of each frame that was ever taken: its own where it was written, and zeros elsewhere
abbrev pub bytes_shown : List Bool → List (List ℕ) → List (List ℕ)
bytes_shown [] region = []
bytes_shown (w ∷ ws) [] = fresh ∷ bytes_shown ws []
bytes_shown (w ∷ ws) (bytes ∷ region) = (if w then bytes else fresh) ∷ bytes_shown ws region

-- each frame that was written has bytes of its own
abbrev pub AreStored : List Bool → List (List ℕ) → Type 0
AreStored written region = (n : ℕ) → slice_get written n ≡ Some true → n < length region

-- all frames: those of the region, and then those that were never taken
abbrev pub pool_of : ℕ → List Bool → List (List ℕ) → List (Option (List ℕ))
pool_of frames taken region = frames_of taken region ++ replicate (frames - length region) None

-- the numbers are those of the free frames of the region, each once: they can be taken one after another, and then all of
-- them are taken
abbrev pub AreFree : List Bool → List ℕ → Type 0
AreFree taken [] = AllByRecursion (λ t. t ≡ true) taken
AreFree taken (n ∷ rest) = (slice_get taken n ≡ Some false) × AreFree (slice_set taken n true) rest

-- the region has as many frames as are marked, and no more than all, which a u32 numbers
pub record IsLaidOut (frames : ℕ) (region : List (List ℕ)) (taken : List Bool) (free : List ℕ) : Type 0 where
  pub marks : length region ≡ length taken
  pub within : length region ≤ frames
  pub numbers : frames < 2 ^ 32
  pub stack : AreFree taken free

-- the region, the marks and the stack each have room for all frames
pub record HasRoom (frames region writes taken free : ℕ) : Type 0 where
  pub bytes : frames ≤ region
  pub written : frames ≤ writes
  pub marks : frames ≤ taken
  pub stack : frames ≤ free
