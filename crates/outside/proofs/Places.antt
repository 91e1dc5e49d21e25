-- The place of the first file of a name.
use Rattle.std.proofs.Common.{◌≡◌, ℕ, ◌≤◌, Bool, true, not, List, Option, Some, None, length, get_or, arith, refl, sym, ap, unwrap_or}
use Rattle.std.proofs.lemmas.Grind.{common_steps}
use Rattle.std.proofs.lemmas.List.Folds.{find_at}
use Rattle.std.proofs.lemmas.List.Sums.{prefix_len-le-length, passes_at_first}
use Rattle.std.proofs.lemmas.Option.{slice_get_within, get_or_from_slice_get}
use Rattle.std.proofs.lemmas.Slice.Eq.{bytes_eq-Decides}
use Rattle.std.specs.List.{position, position_or_len, slice_get}
use Rattle.std.specs.Option.{IfSome, option_map}
use Rattle.std.specs.String.{string_bytes}
use Rattle.std.specs.declared.alloc.Global.{Global}
use Rattle.std.specs.declared.string.String.{String}
use Rattle.std.specs.declared.vec.Vec.{Vec}
use Rattle.outside.specs.Files.{Files, is_named, place_of, file_of, name_at, bytes_at}

pub position_or_len-le-length : {X : Type 0} (p : X → Bool) (xs : List X) → position_or_len p xs ≤ length xs
position_or_len-le-length p xs = prefix_len-le-length (λ x. not (p x)) xs

pub unwrap_or-position : {X : Type 0} (p : X → Bool) (xs : List X) → unwrap_or (position p xs) (length xs) ≡ position_or_len p xs
unwrap_or-position p xs = grind (arith, common_steps, position_or_len-le-length p xs)

-- what is found at the first place passes the test
passes_there : {X : Type 0} (p : X → Bool) (xs : List X) (x : X) → slice_get xs (position_or_len p xs) ≡ Some x → p x ≡ true
passes_there p xs x found =
    let at : get_or xs (position_or_len p xs) x ≡ x = get_or_from_slice_get xs (position_or_len p xs) x x found in
    rw at at (passes_at_first p xs x (slice_get_within xs (position_or_len p xs) x found))

-- the file at the place of a name has that name
pub name_at-place_of : (files : Files) (name : List ℕ) → IfSome (name_at files (place_of files name)) (λ n. n ≡ name)
name_at-place_of files name = go (slice_get files (place_of files name)) refl where
  go : (o : Option (String Global × Vec ℕ Global)) → slice_get files (place_of files name) ≡ o → IfSome (option_map (λ file. string_bytes file.0) o) (λ n. n ≡ name)
  go None found = tt
  go (Some file) found = (bytes_eq-Decides (string_bytes file.0) name).0 (passes_there (is_named name) files file found)

-- the bytes at the place of a name are those of the file of that name
pub bytes_at-place_of : (files : Files) (name : List ℕ) → bytes_at files (place_of files name) ≡ file_of files name
bytes_at-place_of files name = ap (option_map (λ (file : String Global × Vec ℕ Global). file.1.items)) (sym (find_at (is_named name) files))
