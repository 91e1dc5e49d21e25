-- The numbers of the faults, and what each tells besides (own).
use Rattle.std.specs.Prelude.{ℕ, Option, Some, None}
use Rattle.elf_load.specs.declared.fault.ElfFault.{ElfFault}
use Rattle.elf_load.specs.declared.fault.ElfFault.TheVariants.{Short, Magic, Class, Endian, Version, FileKind, Machine, Flags, Headers, Dynamic, Segment, Align, WritableCode, Overlap, Entry, TooLarge, NoMemory}

abbrev pub fault_number : ElfFault → ℕ
fault_number Short = 1
fault_number Magic = 2
fault_number Class = 3
fault_number Endian = 4
fault_number Version = 5
fault_number FileKind = 6
fault_number Machine = 7
fault_number (Flags flags) = 8
fault_number Headers = 9
fault_number Dynamic = 10
fault_number (Segment k) = 11
fault_number (Align k) = 12
fault_number (WritableCode k) = 13
fault_number (Overlap k) = 14
fault_number Entry = 15
fault_number (TooLarge needed) = 16
fault_number NoMemory = 17

-- the flags, the index of the program header, or the frames that are needed
abbrev pub fault_detail : ElfFault → Option ℕ
fault_detail Short = None
fault_detail Magic = None
fault_detail Class = None
fault_detail Endian = None
fault_detail Version = None
fault_detail FileKind = None
fault_detail Machine = None
fault_detail (Flags flags) = Some flags
fault_detail Headers = None
fault_detail Dynamic = None
fault_detail (Segment k) = Some k
fault_detail (Align k) = Some k
fault_detail (WritableCode k) = Some k
fault_detail (Overlap k) = Some k
fault_detail Entry = None
fault_detail (TooLarge needed) = Some needed
fault_detail NoMemory = None
