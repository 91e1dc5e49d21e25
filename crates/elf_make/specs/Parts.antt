-- What a program is made of, as load segments and as memory.
use Rattle.std.specs.Prelude.{◌≡◌, ◌-◌, ◌+◌, ◌*◌, ◌<◌, ◌↔◌, ℕ, List, Option, Some, None, if◌then◌else◌, nat_lt, find, length, unwrap_or, slice_index, All, Contains, IsTrue}
use Rattle.std.specs.Option.{option_map}
use Rattle.std.specs.List.{list_any}
use Rattle.std.specs.List.Sorted.{IsStrictlyIncreasing}
use Rattle.elf_make.specs.declared.parts.Parts.{Parts}
use Rattle.elf_load.specs.declared.fault.ElfFault.TheVariants.{TooLarge}
use Rattle.elf_load.specs.declared.image.Image.{Image}
use Rattle.elf_load.specs.declared.image.ImagePage.{ImagePage}
use Rattle.elf_load.specs.declared.program_headers.ProgramHeader.{ProgramHeader}
use Rattle.elf_load.specs.Fields.{has_page}
use Rattle.elf_load.specs.Faults.{first_fault}
use Rattle.elf_load.specs.Images.{covers, numbers, permission}
use Rattle.elf_make.specs.declared.parts.Part.{Part}

-- a part as a load segment whose bytes stand at a place of a file
abbrev pub segment_at : ℕ → Part → ProgramHeader
segment_at offset p = record {
  kind = 1;
  flags = p.perm;
  offset = offset;
  vaddr = p.at;
  filesz = length p.bytes.items;
  memsz = p.memsz;
}

-- a part as a load segment, wherever its bytes stand
abbrev pub segment_of : Part → ProgramHeader
segment_of p = segment_at 0 p

-- the byte of memory at an address: that of the part whose bytes cover it, else 0
abbrev pub byte_of_part : ℕ → Option Part → ℕ
byte_of_part address part = unwrap_or (option_map (λ p. slice_index p.bytes.items (address - p.at)) part) 0

unfoldable pub parts_byte : List Part → ℕ → ℕ
parts_byte parts address = byte_of_part address (find (λ p. covers address (segment_of p)) parts)

-- the permission of a page: that of the part that has it
unfoldable pub parts_permission : List Part → ℕ → ℕ
parts_permission parts number = unwrap_or (option_map (λ p. permission (segment_of p)) (find (λ p. has_page number (segment_of p)) parts)) 0

-- The pages are just those of the parts, with the bytes of the parts.
pub record ArePagesOf (parts : List Part) (pages : List ImagePage) : Type 0 where
  pub rising : IsStrictlyIncreasing (numbers pages)
  pub present : (n : ℕ) → Contains (numbers pages) n ↔ IsTrue (list_any (λ p. has_page n (segment_of p)) parts)
  pub bytes : All (λ page. (j : ℕ) → j < 4096 → slice_index page.bytes j ≡ parts_byte parts (4096 * page.number + j)) pages
  pub permissions : All (λ page. page.perm ≡ parts_permission parts page.number) pages

-- An image is that of a program: its pages are just those of the parts, and it has the program's entry.
pub record IsImageOf (parts : Parts) (image : Image) : Type 0 where
  pub pages : ArePagesOf parts.segments.items image.pages.items
  pub entry : image.entry ≡ parts.entry

-- a file has no fault but one: under fewer frames than it needs, it needs so many
abbrev pub NeedsFrames : List ℕ → ℕ → Type 0
NeedsFrames file needed = (frames : ℕ) → first_fault file frames ≡ (if nat_lt frames needed then Some (TooLarge needed) else None)
