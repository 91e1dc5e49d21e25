-- A shelf in memory that never fails: a name that it doesn't hold is an empty file. (own)
use Rattle.std.specs.Prelude.{ℕ, List, [], Option, Some, drop, option_map, unwrap_or}
use Rattle.outside.specs.Files.{Files, file_of}

-- the files, the name of the started one, and how many bytes of it were given
pub record SureFiles : Type 0 where
  pub files : Files
  pub started : Option (List ℕ)
  pub given : ℕ

-- the bytes of the file of this name
abbrev pub sure_file : Files → List ℕ → List ℕ
sure_file files name = unwrap_or (file_of files name) []

-- that, as a shelf tells it
abbrev pub file_on : SureFiles → List ℕ → Option (List ℕ)
file_on shelf name = Some (sure_file shelf.files name)

-- what is left of the started file
abbrev pub left_of : SureFiles → Option (List ℕ)
left_of shelf = option_map (λ name. drop shelf.given (sure_file shelf.files name)) shelf.started
