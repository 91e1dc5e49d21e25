-- The fields of an ELF file of 64-bit objects in little-endian data encoding (System V ABI,
-- "ELF Header" and "Program Header"). Each is read at its own place in the whole file; a byte past
-- the end counts as 0.
use Rattle.std.specs.Prelude.{◌==◌, ◌&&◌, ◌||◌, ◌+◌, ◌-◌, ◌*◌, ◌/◌, ℕ, Bool, List, map, nat_le, nat_lt, not, bit_and, if◌then◌else◌}
use Rattle.std.specs.List.{range_with_len}
use Rattle.byte_views.specs.Words.{word_at}
use Rattle.elf_load.specs.declared.program_headers.ProgramHeader.{ProgramHeader}

-- e_ident: the four bytes that mark an ELF file, as one number; the class, the data encoding and the version
abbrev pub ei_mag : List ℕ → ℕ
ei_mag file = word_at file 0 4

abbrev pub ei_class : List ℕ → ℕ
ei_class file = word_at file 4 1

abbrev pub ei_data : List ℕ → ℕ
ei_data file = word_at file 5 1

abbrev pub ei_version : List ℕ → ℕ
ei_version file = word_at file 6 1

abbrev pub e_type : List ℕ → ℕ
e_type file = word_at file 16 2

abbrev pub e_machine : List ℕ → ℕ
e_machine file = word_at file 18 2

abbrev pub e_version : List ℕ → ℕ
e_version file = word_at file 20 4

abbrev pub e_entry : List ℕ → ℕ
e_entry file = word_at file 24 8

abbrev pub e_phoff : List ℕ → ℕ
e_phoff file = word_at file 32 8

abbrev pub e_flags : List ℕ → ℕ
e_flags file = word_at file 48 4

abbrev pub e_phentsize : List ℕ → ℕ
e_phentsize file = word_at file 54 2

abbrev pub e_phnum : List ℕ → ℕ
e_phnum file = word_at file 56 2

-- The types of program headers (p_type) that matter here: PT_LOAD, and PT_DYNAMIC and PT_INTERP.
abbrev pub is_load : ProgramHeader → Bool
is_load h = h.kind == 1

abbrev pub is_dynamic : ProgramHeader → Bool
is_dynamic h = (h.kind == 2) || (h.kind == 3)

-- The flags of a segment (p_flags): PF_X, PF_W and PF_R.
abbrev pub is_executable : ProgramHeader → Bool
is_executable h = not (bit_and h.flags 1 == 0)

abbrev pub is_writable : ProgramHeader → Bool
is_writable h = not (bit_and h.flags 2 == 0)

abbrev pub is_readable : ProgramHeader → Bool
is_readable h = not (bit_and h.flags 4 == 0)

-- the program header of 56 bytes at a place of the file
abbrev pub program_header : List ℕ → ℕ → ProgramHeader
program_header file at = record {
  kind = word_at file at 4;
  flags = word_at file (at + 4) 4;
  offset = word_at file (at + 8) 8;
  vaddr = word_at file (at + 16) 8;
  filesz = word_at file (at + 32) 8;
  memsz = word_at file (at + 40) 8;
}

-- the program header table
unfoldable pub program_headers : List ℕ → List ProgramHeader
program_headers file = map (λ k. program_header file (e_phoff file + 56 * k)) (range_with_len 0 (e_phnum file))

-- The pages of a segment, of 4,096 bytes each: those from that of its first byte of memory to that of
-- its last. Only load segments have pages, and one without memory has none.
abbrev pub first_page : ProgramHeader → ℕ
first_page h = h.vaddr / 4096

abbrev pub last_page : ProgramHeader → ℕ
last_page h = (h.vaddr + h.memsz - 1) / 4096

abbrev pub has_pages : ProgramHeader → Bool
has_pages h = is_load h && nat_lt 0 h.memsz

abbrev pub has_page : ℕ → ProgramHeader → Bool
has_page n h = has_pages h && nat_le (first_page h) n && nat_le n (last_page h)

abbrev pub page_count : ProgramHeader → ℕ
page_count h = if has_pages h then last_page h + 1 - first_page h else 0
