-- The frames that one holder has of a pool.
use Rattle.std.specs.Prelude.{ℕ, List, [], ◌∷◌, Option, None, slice_set}
use Rattle.frame_pool.specs.Pool.{IsTaken}

-- the frames with these numbers are taken, and no number stands twice: they can be given back one after another
abbrev pub AreHeld : List (Option (List ℕ)) → List ℕ → Type 0
AreHeld pool [] = Unit {0}
AreHeld pool (n ∷ rest) = IsTaken pool n × AreHeld (slice_set pool n None) rest
