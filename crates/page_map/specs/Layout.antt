-- How a table lies in memory (own).
use Rattle.std.specs.Prelude.{◌&&◌, ◌≡◌, ◌≢◌, ℕ, ◌+◌, ◌/◌, ◌%◌, ◌<◌, ◌≤◌, List, [], ◌∷◌, ◌++◌, if◌then◌else◌, ◌==◌, Option, None, is_some, true, count_by, length, map, nat_le, nat_lt, replicate, slice_index, slice_index_or, slice_set, All}
use Rattle.std.specs.List.{range_with_len}
use Rattle.mach_types.specs.declared.address_space.TheConstants.{FIRST_MAPPING_PAGE}
use Rattle.page_map.specs.Table.{Table, place_in}
use Rattle.page_map.specs.declared.table.TheConstants.{CHUNKS}

-- a leaf without entries
unfoldable pub empty_leaf : List (Option ℕ)
empty_leaf = replicate 512 None

-- a row of numbers that are all 0
unfoldable pub empty_row : List ℕ
empty_row = replicate 512 0

-- how many chunks have no row of their own
unfoldable pub bare_count : List ℕ → ℕ
bare_count names = count_by (λ row. row == 0) names

-- Chunks of 512 entries each, and the name of a row for each chunk, the number of the row that has its entries. The chunks that
-- never had an entry share row 0, which has none, and each other chunk has a row of its own. There is room for a row of each
-- chunk, so that a chunk keeps its row when its entries go.
pub record IsRows {A : Type 0} (none : A) (size : ℕ) (names : List ℕ) (rows : List (List A)) (capacity : ℕ) : Type 0 where
  pub chunks : length names ≡ size
  pub named : (c : ℕ) → c < size → slice_index names c < length rows
  pub whole : All (λ row. length row ≡ 512) rows
  pub empty : (k : ℕ) → slice_index_or (slice_index_or rows 0 []) k none ≡ none
  pub own : (c d : ℕ) → c < size → d < size → slice_index names c ≢ 0 → slice_index names c ≡ slice_index names d → c ≡ d
  pub counted : length rows + bare_count names ≡ size + 1
  pub room : size + 1 ≤ capacity

-- the names once a chunk has a row of its own, where there were so many rows
abbrev pub names_with : List ℕ → ℕ → ℕ → List ℕ
names_with names count c = if slice_index names c == 0 then slice_set names c count else names

-- the rows then, where this is a row without entries
abbrev pub rows_with : {A : Type 0} → List ℕ → List (List A) → List A → ℕ → List (List A)
rows_with names rows fresh c = if slice_index names c == 0 then rows ++ fresh ∷ [] else rows

-- The leaves are the rows of the pages: each chunk of 512 pages has the number of a leaf.
abbrev pub IsTable : List ℕ → List (List (Option ℕ)) → ℕ → Type 0
IsTable directory leaves capacity = IsRows None CHUNKS directory leaves capacity

-- The numbers of the leaves lie in rows in turn, so that no more of them are written than lie in the groups of 512 chunks
-- that ever had a page.
unfoldable pub numbers_in : List ℕ → List (List ℕ) → List ℕ
numbers_in names rows =
    map (λ c. slice_index_or (slice_index_or rows (slice_index names (c / 512)) []) (c % 512) 0) (range_with_len 0 CHUNKS)

-- each page from the first one of the mappings on and before another has a place
pub record IsFilled (t : Table) (filled_to : ℕ) : Type 0 where
  pub from : FIRST_MAPPING_PAGE ≤ filled_to
  pub placed : (n : ℕ) → FIRST_MAPPING_PAGE ≤ n → n < filled_to → is_some (place_in t n) ≡ true

-- how far pages have places once one page gets a place, or has none: they go on past the page at which they ended, if that gets
-- one, and end at a page before it that has none
abbrev pub filled_with : ℕ → ℕ → Option ℕ → ℕ
filled_with filled_to page place =
    if is_some place
    then (if page == filled_to then page + 1 else filled_to)
    else if nat_le FIRST_MAPPING_PAGE page && nat_lt page filled_to then page else filled_to
