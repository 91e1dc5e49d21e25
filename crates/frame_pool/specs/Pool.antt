-- A pool of frames, in order of their numbers: the bytes of each frame that is taken, and nothing for one that is free
-- (own).
use Rattle.std.specs.Prelude.{◌≡◌, ℕ, List, Option, Some, is_none, is_some, count_by, map, replicate, slice_get}
use Rattle.std.specs.Option.{option_map}

-- how many frames are free
abbrev pub free_count : List (Option (List ℕ)) → ℕ
free_count pool = count_by is_none pool

-- how many frames are taken
abbrev pub taken_count : List (Option (List ℕ)) → ℕ
taken_count pool = count_by is_some pool

-- the bytes of a frame that was just taken
unfoldable pub fresh : List ℕ
fresh = replicate 4096 0

-- the frame with this number is of the pool, and is taken
abbrev pub IsTaken : List (Option (List ℕ)) → ℕ → Type 0
IsTaken pool n = (bytes : List ℕ) × (slice_get pool n ≡ Some (Some bytes))

-- the pool once each frame that is taken has zero bytes again
abbrev pub zeroed : List (Option (List ℕ)) → List (Option (List ℕ))
zeroed pool = map (option_map (λ (_ : List ℕ). fresh)) pool
