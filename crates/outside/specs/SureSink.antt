-- A sink in memory that never fails, and tells what it holds up to its room. (own)
use Rattle.std.specs.Prelude.{ℕ, ◌++◌, List, Option, Some, None, length, nat_le, if◌then◌else◌}

-- what it holds, where it tells it, and up to how many bytes it does
pub record SureHeld : Type 0 where
  pub told : Option (List ℕ)
  pub room : ℕ

-- what a sink of this room tells after a piece: past its room nothing any more
abbrev pub told_after : ℕ → Option (List ℕ) → List ℕ → Option (List ℕ)
told_after room None piece = None
told_after room (Some held) piece = if nat_le (length (held ++ piece)) room then Some (held ++ piece) else None
