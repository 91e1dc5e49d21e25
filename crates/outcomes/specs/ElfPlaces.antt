-- What a fault of a program's file is about: a segment, an entry, or a number of frames (own).
use Rattle.std.specs.Prelude.{ℕ, ◌+◌, ◌-◌, ◌^◌, List, Option, Some, None, min}
use Rattle.std.specs.List.{slice_get}
use Rattle.std.specs.Option.{option_map}
use Rattle.mach_types.specs.declared.limits.Limits.{Limits}
use Rattle.elf_load.specs.declared.fault.ElfFault.{ElfFault}
use Rattle.elf_load.specs.declared.fault.ElfFault.TheVariants as elf
use Rattle.elf_load.specs.declared.program_headers.ProgramHeader.{ProgramHeader}
use Rattle.elf_load.specs.Fields.{e_entry, program_headers}
use Rattle.call_reasons.specs.declared.reasons.ElfPlace.{ElfPlace}
use Rattle.call_reasons.specs.declared.reasons.ElfPlace.TheVariants.{Segment, Entry, Frames}
use Rattle.call_reasons.specs.declared.reasons.Span.{Span}

-- so many addresses or bytes from a first one: up to the one behind the last, or to the greatest number
abbrev pub span_of : ℕ → ℕ → Span
span_of from size = record { from = from; to = min (from + size) (2 ^ 64 - 1) }

-- a segment: its memory (p_vaddr, p_memsz), and its bytes in the file (p_offset, p_filesz)
abbrev pub segment_of : ProgramHeader → ElfPlace
segment_of h = Segment (span_of h.vaddr h.memsz) (span_of h.offset h.filesz)

-- that whose program header stands at this index of the table
abbrev pub segment_at : List ℕ → ℕ → Option ElfPlace
segment_at file k = option_map segment_of (slice_get (program_headers file) k)

-- what a fault of a file under limits is about, where it is about a segment, the entry or the frames
abbrev pub place_of : List ℕ → Limits → ElfFault → Option ElfPlace
place_of file limits elf.Short = None
place_of file limits elf.Magic = None
place_of file limits elf.Class = None
place_of file limits elf.Endian = None
place_of file limits elf.Version = None
place_of file limits elf.FileKind = None
place_of file limits elf.Machine = None
place_of file limits (elf.Flags flags) = None
place_of file limits elf.Headers = None
place_of file limits elf.Dynamic = None
place_of file limits (elf.Segment k) = segment_at file k
place_of file limits (elf.Align k) = segment_at file k
place_of file limits (elf.WritableCode k) = segment_at file k
place_of file limits (elf.Overlap k) = segment_at file k
place_of file limits elf.Entry = Some (Entry (e_entry file))
place_of file limits (elf.TooLarge needed) = Some (Frames needed limits.frames)
place_of file limits elf.NoMemory = None
