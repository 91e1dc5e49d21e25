-- The image of a file: the memory with which a program starts (System V ABI, "Program Loading"),
-- page by page, and what the kernel tells the program of its file.
use Rattle.std.specs.Prelude.{◌≡◌, ◌&&◌, ◌||◌, ◌+◌, ◌-◌, ◌*◌, ◌<◌, ◌≤◌, ◌%◌, ◌⊎◌, ◌↔◌, ℕ, Bool, List, Option, None, find, map, length, unwrap_or, nat_le, nat_lt, slice_index, sum_by, All, Contains, IsTrue, if◌then◌else◌}
use Rattle.std.specs.Option.{option_map}
use Rattle.std.specs.List.Sorted.{IsStrictlyIncreasing}
use Rattle.std.specs.List.{list_any}
use Rattle.elf_load.specs.declared.image.Image.{Image}
use Rattle.elf_load.specs.declared.image.ImagePage.{ImagePage}
use Rattle.elf_load.specs.declared.program_headers.ProgramHeader.{ProgramHeader}
use Rattle.elf_load.specs.Fields.{e_entry, e_phoff, e_phnum, is_load, is_executable, is_writable, is_readable, program_headers, has_page, page_count}
use Rattle.elf_load.specs.Faults.{first_fault}

-- the file part of a load segment covers an address
abbrev pub covers : ℕ → ProgramHeader → Bool
covers address h = is_load h && nat_le h.vaddr address && nat_lt address (h.vaddr + h.filesz)

-- the byte of memory at an address: that of the file where the file part of a load segment covers it, else 0
abbrev pub byte_of_segment : List ℕ → ℕ → Option ProgramHeader → ℕ
byte_of_segment file address segment = unwrap_or (option_map (λ h. slice_index file (h.offset + (address - h.vaddr))) segment) 0

unfoldable pub memory_byte : List ℕ → ℕ → ℕ
memory_byte file address = byte_of_segment file address (find (covers address) (program_headers file))

-- the permission of a segment's pages: 4 to read, 2 to write, 1 to execute; whoever may write may read (own)
abbrev pub permission : ProgramHeader → ℕ
permission h = (if is_readable h || is_writable h then 4 else 0) + (if is_writable h then 2 else 0) + (if is_executable h then 1 else 0)

-- the permission of a page: that of the load segment that has it
unfoldable pub page_permission : List ℕ → ℕ → ℕ
page_permission file number = unwrap_or (option_map permission (find (has_page number) (program_headers file))) 0

-- so many bytes of the file lie in its part that a load segment has
abbrev pub holds : ℕ → ℕ → ProgramHeader → Bool
holds offset size h = is_load h && nat_le h.offset offset && nat_le (offset + size) (h.offset + h.filesz)

-- where the program header table stands in memory: in the first load segment whose file part holds all of it, else 0
unfoldable pub table_address : List ℕ → ℕ
table_address file = unwrap_or (option_map (λ h. h.vaddr + e_phoff file - h.offset) (find (holds (e_phoff file) (56 * e_phnum file)) (program_headers file))) 0

abbrev pub number_of : ImagePage → ℕ
number_of page = page.number

-- the numbers of the pages; page n has the addresses from 4096 * n
abbrev pub numbers : List ImagePage → List ℕ
numbers pages = map number_of pages

-- the end of the last page
abbrev pub end_of : List ImagePage → ℕ
end_of pages = 4096 * (slice_index (numbers pages) (length pages - 1) + 1)

-- a page is what the file says of its number
pub record IsPage (file : List ℕ) (page : ImagePage) : Type 0 where
  pub size : length page.bytes ≡ 4096
  pub bytes : (j : ℕ) → j < 4096 → slice_index page.bytes j ≡ memory_byte file (4096 * page.number + j)
  pub permission : page.perm ≡ page_permission file page.number

-- The pages of a file: they rise in number, page n is there exactly where some load segment has page n,
-- and so they are as many as the segments have.
pub record ArePages (file : List ℕ) (pages : List ImagePage) : Type 0 where
  pub rising : IsStrictlyIncreasing (numbers pages)
  pub present : (n : ℕ) → Contains (numbers pages) n ↔ IsTrue (list_any (has_page n) (program_headers file))
  pub whole : All (IsPage file) pages
  pub count : length pages ≡ sum_by page_count (program_headers file)

-- the image of a file
pub record IsImage (file : List ℕ) (image : Image) : Type 0 where
  pub pages : ArePages file image.pages.items
  pub entry : image.entry ≡ e_entry file
  pub table : image.phdr ≡ table_address file
  pub table_length : image.phnum ≡ e_phnum file
  pub break_at : image.break_at ≡ end_of image.pages.items

-- an image of some file that has no fault under a number of frames
pub record IsLoaded (image : Image) (frames : ℕ) : Type 0 where
  pub file : List ℕ
  pub are_bytes : All (λ b. b < 256) file
  pub no_fault : first_fault file frames ≡ None
  pub is_image : IsImage file image

-- a permission that a page can have: whoever may write may read and not execute
abbrev pub IsPermission : ℕ → Type 0
IsPermission p = (p ≡ 0) ⊎ (p ≡ 1) ⊎ (p ≡ 4) ⊎ (p ≡ 5) ⊎ (p ≡ 6)

-- what a machine needs of an image: the pages rise in number and lie in the addresses of a user, but
-- for the first page, there are enough frames, no page is writable and executable, and the break is
-- the end of the highest page
pub record IsBootable (frames : ℕ) (image : Image) : Type 0 where
  pub rising : IsStrictlyIncreasing (numbers image.pages.items)
  pub room : length image.pages.items + 65 ≤ frames
  pub some_page : 0 < length image.pages.items
  pub below : All (λ page. page.number < 33554432) image.pages.items
  pub not_first : All (λ page. 0 < page.number) image.pages.items
  pub sizes : All (λ page. length page.bytes ≡ 4096) image.pages.items
  pub permissions : All (λ page. IsPermission page.perm) image.pages.items
  pub break_at : image.break_at ≡ end_of image.pages.items
  pub aligned : image.entry % 4 ≡ 0
