-- Which parts are refused (own): those of which no file can be made that is loaded.
use Rattle.std.specs.Prelude.{◌==◌, ◌&&◌, ◌||◌, ℕ, Bool, List, Option, Some, None, if◌then◌else◌, length, map, nat_lt, not, position, take}
use Rattle.std.specs.Option.{option_map}
use Rattle.std.specs.List.{enumerate_from}
use Rattle.elf_load.specs.declared.program_headers.ProgramHeader.{ProgramHeader}
use Rattle.elf_load.specs.Faults.{is_bad_entry, is_misplaced, is_writable_code, shares_page}
use Rattle.elf_make.specs.declared.parts.MakeFault.{MakeFault}
use Rattle.elf_make.specs.declared.parts.MakeFault.TheVariants.{BadParts}
use Rattle.elf_make.specs.declared.parts.Parts.{Parts}
use Rattle.elf_make.specs.Parts.{segment_of}

-- A segment has more bytes than memory, lies outside of the addresses of a user, can be written and
-- executed, or has a page of one of the earlier ones. (Its bytes can't lie past the file.)
abbrev pub is_bad_after : List ProgramHeader → ProgramHeader → Bool
is_bad_after earlier h = is_misplaced h.filesz h || is_writable_code h || shares_page earlier h

-- the same of a segment of the table beside its index
abbrev pub is_bad_segment : List ProgramHeader → ℕ × ProgramHeader → Bool
is_bad_segment segments entry = is_bad_after (take entry.0 segments) entry.1

-- the first such segment
abbrev pub first_bad_segment : List ProgramHeader → Option ℕ
first_bad_segment segments = position (is_bad_segment segments) (enumerate_from 0 segments)

-- the number of parts, the flags or the entry is not one of a file that is loaded
abbrev pub is_bad_whole : ℕ → ℕ → List ProgramHeader → Bool
is_bad_whole entry flags segments =
    (length segments == 0) || nat_lt 64 (length segments) || (not (flags == 0) && not (flags == 16)) || is_bad_entry entry segments

abbrev pub segments_of : Parts → List ProgramHeader
segments_of parts = map segment_of parts.segments.items

abbrev pub bad_index : Option ℕ → Bool → ℕ → Option ℕ
bad_index (Some k) whole count = Some k
bad_index None whole count = if whole then Some count else None

-- the first part that is bad, or the number of parts where all are good but the whole is not
unfoldable pub refusal : Parts → Option MakeFault
refusal parts = option_map BadParts (bad_index (first_bad_segment (segments_of parts)) (is_bad_whole parts.entry parts.flags (segments_of parts)) (length parts.segments.items))
