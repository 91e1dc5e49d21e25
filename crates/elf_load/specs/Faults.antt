-- The faults of a file, in the order in which they are looked for. Those on the format are of the
-- System V ABI and its supplement for RISC-V; which files of that format are taken is own.
use Rattle.std.specs.Prelude.{◌==◌, ◌&&◌, ◌||◌, ◌+◌, ◌*◌, ◌%◌, ℕ, Bool, true, false, List, [], ◌∷◌, ◌++◌, Option, Some, None, Result, ◌≡◌, MatchResult, ◌<◌, slice_index_or, length, nat_le, nat_lt, not, position, take, sum_by}
use Rattle.std.specs.Option.{option_map}
use Rattle.std.specs.List.{list_any, enumerate_from}
use Rattle.elf_load.specs.declared.fault.ElfFault.{ElfFault}
use Rattle.elf_load.specs.declared.fault.ElfFault.TheVariants.{Short, Magic, Class, Endian, Version, FileKind, Machine, Flags, Headers, Dynamic, Segment, Align, WritableCode, Overlap, Entry, TooLarge}
use Rattle.elf_load.specs.declared.program_headers.ProgramHeader.{ProgramHeader}
use Rattle.elf_load.specs.Fields.{ei_mag, ei_class, ei_data, ei_version, e_type, e_machine, e_version, e_entry, e_phoff, e_flags, e_phentsize, e_phnum, is_load, is_dynamic, is_executable, is_writable, program_headers, first_page, last_page, has_pages, page_count}

-- a row: the fault, where the test holds
abbrev pub row : Bool → ElfFault → Option ElfFault
row true fault = Some fault
row false fault = None

-- the first fault of some rows
abbrev pub first_of : List (Option ElfFault) → Option ElfFault
first_of [] = None
first_of (Some fault ∷ rest) = Some fault
first_of (None ∷ rest) = first_of rest

-- Tests of the file header. Some files are refused although they are good ELF: those of another
-- machine than RISC-V (243), those that aren't executables linked at fixed addresses (2), those of
-- another floating-point ABI than soft float, or with compressed code (own). An e_flags of 16 is the TSO bit.
abbrev pub has_bad_version : List ℕ → Bool
has_bad_version file = not (ei_version file == 1) || not (e_version file == 1)

abbrev pub has_bad_flags : List ℕ → Bool
has_bad_flags file = not (e_flags file == 0) && not (e_flags file == 16)

abbrev pub has_bad_table : List ℕ → Bool
has_bad_table file = not (e_phentsize file == 56) || (e_phnum file == 0) || nat_lt 64 (e_phnum file) || nat_lt (length file) (e_phoff file + 56 * e_phnum file)

-- Tests of a load segment. User addresses of a file end at 0x2000000000, and its first page is never used (own).
abbrev pub is_misplaced : ℕ → ProgramHeader → Bool
is_misplaced file_length h = is_load h && (nat_lt h.memsz h.filesz || nat_lt file_length (h.offset + h.filesz) || nat_lt h.vaddr 4096 || nat_lt 0x2000000000 (h.vaddr + h.memsz))

abbrev pub is_unaligned : ProgramHeader → Bool
is_unaligned h = is_load h && not (h.offset % 4096 == h.vaddr % 4096)

abbrev pub is_writable_code : ProgramHeader → Bool
is_writable_code h = is_load h && is_writable h && is_executable h

-- two segments have a page in common
abbrev pub share_page : ProgramHeader → ProgramHeader → Bool
share_page g h = has_pages g && has_pages h && nat_le (first_page g) (last_page h) && nat_le (first_page h) (last_page g)

-- a segment has a page of one of these
abbrev pub shares_page : List ProgramHeader → ProgramHeader → Bool
shares_page earlier h = list_any (λ g. share_page g h) earlier

-- a header of the table, beside its index, has a page of an earlier one
abbrev pub overlaps : List ProgramHeader → ℕ × ProgramHeader → Bool
overlaps headers entry = shares_page (take entry.0 headers) entry.1

-- the 4 bytes at an address lie in the memory of a segment with code
abbrev pub has_code : ℕ → ProgramHeader → Bool
has_code at h = is_load h && is_executable h && nat_le h.vaddr at && nat_le (at + 4) (h.vaddr + h.memsz)

abbrev pub is_bad_entry : ℕ → List ProgramHeader → Bool
is_bad_entry entry headers = not (entry % 4 == 0) || not (list_any (has_code entry) headers)

-- the frames that a program needs: one for each page, 64 for the stack and one for the return page (own)
abbrev pub frames_needed : List ProgramHeader → ℕ
frames_needed headers = sum_by page_count headers + 65

-- the rows on the file header
unfoldable pub file_rows : List ℕ → List (Option ElfFault)
file_rows file =
    row (nat_lt (length file) 64) Short
    ∷ row (not (ei_mag file == 0x464C457F)) Magic
    ∷ row (not (ei_class file == 2)) Class
    ∷ row (not (ei_data file == 1)) Endian
    ∷ row (has_bad_version file) Version
    ∷ row (not (e_type file == 2)) FileKind
    ∷ row (not (e_machine file == 243)) Machine
    ∷ row (has_bad_flags file) (Flags (e_flags file))
    ∷ row (has_bad_table file) Headers
    ∷ []

-- the rows on the program headers of a file of so many bytes; a number is the index in the table
unfoldable pub segment_rows : ℕ → ℕ → List ProgramHeader → List (Option ElfFault)
segment_rows file_length entry headers =
    row (list_any is_dynamic headers) Dynamic
    ∷ option_map Segment (position (is_misplaced file_length) headers)
    ∷ option_map Align (position is_unaligned headers)
    ∷ option_map WritableCode (position is_writable_code headers)
    ∷ option_map Overlap (position (overlaps headers) (enumerate_from 0 headers))
    ∷ row (is_bad_entry entry headers) Entry
    ∷ []

-- the row on the frames
unfoldable pub frame_rows : ℕ → List ProgramHeader → List (Option ElfFault)
frame_rows frames headers = row (nat_lt frames (frames_needed headers)) (TooLarge (frames_needed headers)) ∷ []

-- the first fault of a file under a number of frames
unfoldable pub first_fault : List ℕ → ℕ → Option ElfFault
first_fault file frames = first_of (file_rows file ++ segment_rows (length file) (e_entry file) (program_headers file) ++ frame_rows frames (program_headers file))

-- a test answers Ok exactly where some rows have no fault, and else their first fault
abbrev pub Finds : {X : Type 0} → Result X ElfFault → List (Option ElfFault) → Type 0
Finds result rows = MatchResult result (λ _. first_of rows ≡ None) (λ fault. first_of rows ≡ Some fault)

-- What the rows say of the load segments where they have no fault: each lies in the file and in the
-- addresses of a user, none can be written and executed, and no two have a page in common.
pub record AreApart (file_length : ℕ) (headers : List ProgramHeader) : Type 0 where
  pub placed : (k : ℕ) (d : ProgramHeader) → k < length headers → is_misplaced file_length (slice_index_or headers k d) ≡ false
  pub exclusive : (k : ℕ) (d : ProgramHeader) → k < length headers → is_writable_code (slice_index_or headers k d) ≡ false
  pub apart : (j k : ℕ) (d : ProgramHeader) → j < k → k < length headers → share_page (slice_index_or headers j d) (slice_index_or headers k d) ≡ false
