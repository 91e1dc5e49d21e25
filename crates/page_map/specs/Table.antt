-- A table from the numbers of pages to places.
use Rattle.std.specs.Prelude.{ℕ, ◌/◌, ◌%◌, List, [], if◌then◌else◌, Option, None, nat_lt, slice_index, slice_index_or}
use Rattle.page_map.specs.declared.table.TheConstants.{CHUNK, PAGES}

-- The pages lie in chunks of 512. Each chunk has the number of a leaf, and the leaf has the place of each of its pages
-- that has one.
pub record Table : Type 0 where
  pub directory : List ℕ
  pub leaves : List (List (Option ℕ))

-- the place of a page; a page whose address would be 2^38 or more has none
abbrev pub place_in : Table → ℕ → Option ℕ
place_in t n =
    if nat_lt n PAGES
    then slice_index_or (slice_index_or t.leaves (slice_index t.directory (n / CHUNK)) []) (n % CHUNK) None
    else None
