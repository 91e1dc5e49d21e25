-- What is known of the files of the system: what std's file tells of its bytes, which is none of the
-- system's. (own)
use Rattle.std.specs.Prelude.{ℕ, Bool, List, Option, None, Some}
use Rattle.std.specs.declared.io.ErrorKind.{ErrorKind}

-- the bytes that reads of the started file will give, where they are known
abbrev pub known_left : {F : Type 0} → (F → Option (List ℕ)) → Option F → Option (List ℕ)
known_left remaining None = None
known_left remaining (Some file) = remaining file

-- whether a file is started, what it has left, where that is known, the count of faults, which is that of
-- every name, and what std told of the last one
pub record SystemFiles : Type 0 where
  pub is_started : Bool
  pub left : Option (List ℕ)
  pub faults : ℕ
  pub trouble : Option ErrorKind
