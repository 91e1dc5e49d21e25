-- What is known of standard output: what the writer tells of its bytes, which is none of the system's. (own)
use Rattle.std.specs.Prelude.{ℕ, List, Option}
use Rattle.std.specs.declared.io.ErrorKind.{ErrorKind}

-- the bytes that the writer holds, where they are known, the count of faults, and what std told of the last
-- one; none where nothing was taken of a piece, and nothing told
pub record SystemOutput : Type 0 where
  pub contents : Option (List ℕ)
  pub faults : ℕ
  pub trouble : Option ErrorKind
