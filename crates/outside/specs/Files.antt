-- Files in memory, by name. Where two have one name, the first counts. (own)
use Rattle.std.specs.Prelude.{ℕ, Bool, List, Option, string_bytes, option_map, slice_get}
use Rattle.std.specs.List.{find, position_or_len}
use Rattle.std.specs.Str.{bytes_eq}
use Rattle.std.specs.declared.alloc.Global.{Global}
use Rattle.std.specs.declared.string.String.{String}
use Rattle.std.specs.declared.vec.Vec.{Vec}

-- names and bytes, in order
abbrev pub Files : Type 0
Files = List (String Global × Vec ℕ Global)

-- whether a file has this name
abbrev pub is_named : List ℕ → String Global × Vec ℕ Global → Bool
is_named name file = bytes_eq (string_bytes file.0) name

-- the place of the file of this name, or the number of files where there is none
abbrev pub place_of : Files → List ℕ → ℕ
place_of files name = position_or_len (is_named name) files

-- the bytes of the file of this name
abbrev pub file_of : Files → List ℕ → Option (List ℕ)
file_of files name = option_map (λ file. file.1.items) (find (is_named name) files)

-- the name of the file at this place
abbrev pub name_at : Files → ℕ → Option (List ℕ)
name_at files place = option_map (λ file. string_bytes file.0) (slice_get files place)

-- the bytes of the file at this place
abbrev pub bytes_at : Files → ℕ → Option (List ℕ)
bytes_at files place = option_map (λ file. file.1.items) (slice_get files place)
