-- The file that is written (System V ABI, "ELF Header" and "Program Header"): a file header, a program
-- header table, and the bytes of each part.
use Rattle.std.specs.Prelude.{◌≡◌, ◌≤◌, ◌+◌, ◌-◌, ◌*◌, ◌%◌, ◌++◌, ℕ, List, [], ◌∷◌, length, replicate}
use Rattle.std.specs.Int.{bytes_low_first}
use Rattle.std.specs.List.{flat_map}
use Rattle.elf_load.specs.declared.program_headers.ProgramHeader.{ProgramHeader}
use Rattle.mach_types.specs.declared.address_space.TheConstants.{PAGE_SIZE}
use Rattle.elf_make.specs.declared.parts.Part.{Part}
use Rattle.elf_make.specs.declared.parts.Parts.{Parts}
use Rattle.elf_make.specs.Parts.{segment_at}

-- a number in so many bytes, the lowest byte first
unfoldable pub field : ℕ → ℕ → List ℕ
field size number = bytes_low_first 0 size number

-- the magic bytes, class 2 (64 bits), data encoding 1 (little-endian), version 1, and zeros
abbrev pub identification : List ℕ
identification = 0x7F ∷ 0x45 ∷ 0x4C ∷ 0x46 ∷ 2 ∷ 1 ∷ 1 ∷ 0 ∷ 0 ∷ 0 ∷ 0 ∷ 0 ∷ 0 ∷ 0 ∷ 0 ∷ 0 ∷ []

-- The file header. It begins with the identification, an executable (2) for RISC-V (243) of version 1,
-- and the entry.
unfoldable pub header_start : ℕ → List ℕ
header_start entry = identification ++ field 2 2 ++ field 2 243 ++ field 4 1 ++ field 8 entry

-- Then come the places of the program header table and of the section header table, which isn't there,
-- the flags, the sizes of this header and of a program header, how many of these there are, and nothing
-- on sections.
unfoldable pub header_end : ℕ → ℕ → List ℕ
header_end flags count = field 8 64 ++ field 8 0 ++ field 4 flags ++ field 2 64 ++ field 2 56 ++ field 2 count ++ field 2 0 ++ field 2 0 ++ field 2 0

abbrev pub file_header : ℕ → ℕ → ℕ → List ℕ
file_header entry flags count = header_start entry ++ header_end flags count

-- A program header: its type, flags, offset, address (twice, as there is no other physical address),
-- the sizes in the file and in memory, and the alignment, a page.
unfoldable pub table_entry : ProgramHeader → List ℕ
table_entry h = field 4 h.kind ++ field 4 h.flags ++ field 8 h.offset ++ field 8 h.vaddr ++ field 8 h.vaddr ++ field 8 h.filesz ++ field 8 h.memsz ++ field 8 PAGE_SIZE

-- a place suits an address behind contents that end at `end`: it isn't before their end, and equals the
-- address modulo the size of a page
pub record Suits (end at place : ℕ) : Type 0 where
  pub behind : end ≤ place
  pub aligned : place % PAGE_SIZE ≡ at % PAGE_SIZE

-- the lowest place that suits
abbrev pub place_from : ℕ → ℕ → ℕ
place_from end at = end + (at % PAGE_SIZE + PAGE_SIZE - end % PAGE_SIZE) % PAGE_SIZE

-- it suits, and no lower one does
pub record IsLowest (end at place : ℕ) : Type 0 where
  pub suits : Suits end at place
  pub lowest : (other : ℕ) → Suits end at other → place ≤ other

abbrev pub PlacesAreLowest : Type 0
PlacesAreLowest = (end at : ℕ) → IsLowest end at (place_from end at)

-- the segments of parts whose bytes stand one after the other from `end` on
abbrev pub placed_from : ℕ → List Part → List ProgramHeader
placed_from end [] = []
placed_from end (p ∷ ps) = segment_at (place_from end p.at) p ∷ placed_from (place_from end p.at + length p.bytes.items) ps

-- and the bytes of the parts, with zeros between
abbrev pub contents_from : ℕ → List Part → List ℕ
contents_from end [] = []
contents_from end (p ∷ ps) = replicate (place_from end p.at - end) 0 ++ p.bytes.items ++ contents_from (place_from end p.at + length p.bytes.items) ps

-- where the contents begin: behind the headers
abbrev pub contents_start : List Part → ℕ
contents_start parts = 64 + 56 * length parts

unfoldable pub file_of : Parts → List ℕ
file_of parts =
    file_header parts.entry parts.flags (length parts.segments.items)
    ++ flat_map table_entry (placed_from (contents_start parts.segments.items) parts.segments.items)
    ++ contents_from (contents_start parts.segments.items) parts.segments.items
