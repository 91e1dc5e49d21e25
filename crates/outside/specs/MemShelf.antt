-- A shelf in memory that fails where it is told to. (own)
use Rattle.std.specs.Prelude.{◌≡◌, ℕ, ◌≤◌, ◌||◌, ◌==◌, Bool, List, Option, IfSome, drop, length, nat_lt, option_map, slice_index, slice_set}
use Rattle.outside.specs.Calls.{is_failing}
use Rattle.outside.specs.Counts.{counted}
use Rattle.outside.specs.Files.{Files, place_of, file_of, bytes_at, name_at}

-- the files, the numbers of the calls that fail, how many calls there were, the counts of faults (one
-- for each file and then one for all other names), and the place of the started file, or the number
-- of files where none is started, with how many bytes of it were given
pub record MemoryShelf : Type 0 where
  pub files : Files
  pub failing : List ℕ
  pub calls : ℕ
  pub counts : List ℕ
  pub started : ℕ
  pub given : ℕ

-- the bytes of the file of this name
abbrev pub file_on : MemoryShelf → List ℕ → Option (List ℕ)
file_on shelf = file_of shelf.files

-- whether a file is started
abbrev pub is_started : MemoryShelf → Bool
is_started shelf = nat_lt shelf.started (length shelf.files)

-- the name of the started file
abbrev pub name_started : MemoryShelf → Option (List ℕ)
name_started shelf = name_at shelf.files shelf.started

-- what is left of the started file
abbrev pub left_of : MemoryShelf → Option (List ℕ)
left_of shelf = option_map (drop shelf.given) (bytes_at shelf.files shelf.started)

-- the count of faults of a name
abbrev pub count_of : MemoryShelf → List ℕ → ℕ
count_of shelf name = slice_index shelf.counts (place_of shelf.files name)

-- the counts with one fault more at a place
abbrev pub raised_at : List ℕ → ℕ → List ℕ
raised_at counts place = slice_set counts place (counted (slice_index counts place))

-- whether it refuses to start the file of this name: it has none, or the call is to fail
abbrev pub is_start_refused : MemoryShelf → List ℕ → Bool
is_start_refused shelf name =
    (place_of shelf.files name == length shelf.files) || is_failing shelf.failing shelf.calls

-- the started file, if there is one, is the first of its name, and no more of it was given than it has
pub record IsStarted (files : Files) (started given : ℕ) : Type 0 where
  pub is_first : IfSome (name_at files started) (λ name. place_of files name ≡ started)
  pub within : IfSome (bytes_at files started) (λ bytes. given ≤ length bytes)
