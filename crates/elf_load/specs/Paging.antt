-- How the pages of an image come about, segment by segment in the order of their addresses.
use Rattle.std.specs.Prelude.{◌≡◌, ◌+◌, ◌-◌, ◌*◌, ◌<◌, ◌≤◌, ◌++◌, ℕ, true, List, length, slice_index, slice_index_or, All, Contains, if◌then◌else◌}
use Rattle.std.specs.List.{range_with_len}
use Rattle.elf_load.specs.declared.image.ImagePage.{ImagePage}
use Rattle.elf_load.specs.declared.program_headers.ProgramHeader.{ProgramHeader}
use Rattle.elf_load.specs.Fields.{first_page, has_pages}
use Rattle.elf_load.specs.Images.{covers, numbers, permission}

-- the byte at an address as one segment has it
abbrev pub segment_byte : List ℕ → ProgramHeader → ℕ → ℕ
segment_byte file h address = if covers address h then slice_index file (h.offset + (address - h.vaddr)) else 0

-- a page as one segment has it
pub record IsPageOf (file : List ℕ) (h : ProgramHeader) (page : ImagePage) : Type 0 where
  pub size : length page.bytes ≡ 4096
  pub bytes : (j : ℕ) → j < 4096 → slice_index page.bytes j ≡ segment_byte file h (4096 * page.number + j)
  pub permission : page.perm ≡ permission h

-- so many pages of a segment were appended, from its first on
pub record AppendsPages (file : List ℕ) (h : ProgramHeader) (count : ℕ) (old new : List ImagePage) : Type 0 where
  pub made : List ImagePage
  pub appended : new ≡ old ++ made
  pub counted : numbers made ≡ range_with_len (first_page h) count
  pub whole : All (IsPageOf file h) made

-- the segment of the table whose pages come first from page `from` on
pub record IsNext (headers : List ProgramHeader) (from : ℕ) (h : ProgramHeader) : Type 0 where
  pub listed : Contains headers h
  pub nonempty : has_pages h ≡ true
  pub later : from ≤ first_page h
  pub first : (k : ℕ) (d : ProgramHeader) → k < length headers → has_pages (slice_index_or headers k d) ≡ true → from ≤ first_page (slice_index_or headers k d) → first_page h ≤ first_page (slice_index_or headers k d)
