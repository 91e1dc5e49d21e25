-- Worked examples of the definitions, by computation.
use Rattle.std.proofs.Common.{◌≡◌, ℕ, true, false, [], Some, refl}
use Rattle.elf_load.specs.declared.fault.ElfFault.TheVariants.{Short}
use Rattle.elf_load.specs.declared.program_headers.ProgramHeader.{ProgramHeader}
use Rattle.elf_load.specs.Fields.{page_count}
use Rattle.elf_load.specs.Faults.{file_rows, first_fault, is_misplaced, share_page}
use Rattle.elf_load.specs.Images.{covers, permission}

-- a load segment with these flags, at this address, of so many bytes in the file and in memory
abbrev segment : ℕ → ℕ → ℕ → ℕ → ProgramHeader
segment flags address bytes memory = record { kind = 1; flags = flags; offset = 0; vaddr = address; filesz = bytes; memsz = memory }

-- an empty file is too short
empty_file : first_fault [] 4096 ≡ Some Short
unfolding first_fault file_rows
empty_file = refl

-- two bytes across the end of a page are two pages, and no memory is none
two_pages : page_count (segment 4 0x10fff 0 2) ≡ 2
two_pages = refl

no_page : page_count (segment 4 0x10fff 0 0) ≡ 0
no_page = refl

-- segments in neighbouring pages share none, and with a byte more they do
neighbours : share_page (segment 5 0x10000 0 0x1000) (segment 6 0x11000 0 1) ≡ false
neighbours = refl

one_byte_more : share_page (segment 5 0x10000 0 0x1001) (segment 6 0x11000 0 1) ≡ true
one_byte_more = refl

-- the last address of a user is below 0x2000000000
at_the_end : is_misplaced 0 (segment 4 0x1ffffff000 0 0x1000) ≡ false
at_the_end = refl

past_the_end : is_misplaced 0 (segment 4 0x1ffffff000 0 0x1001) ≡ true
past_the_end = refl

-- a segment that can only be written can be read too; a flag beyond the three says nothing
written_alone : permission (segment 2 0x10000 0 1) ≡ 6
written_alone = refl

code : permission (segment 5 0x10000 0 1) ≡ 5
code = refl

other_flag : permission (segment 8 0x10000 0 1) ≡ 0
other_flag = refl

-- the file part ends where the zeros begin
last_byte : covers 0x10002 (segment 6 0x10000 3 10) ≡ true
last_byte = refl

first_zero : covers 0x10003 (segment 6 0x10000 3 10) ≡ false
first_zero = refl
