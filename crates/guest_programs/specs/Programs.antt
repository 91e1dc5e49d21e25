-- What a guest's program is made of (own).
use Rattle.std.specs.Prelude.{ℕ, zero, suc, ◌≡◌, ◌+◌, ◌-◌, ◌++◌, List, [], ◌∷◌, length, replicate, unwrap_or}
use Rattle.std.specs.Int.{to_le_bytes, w64}
use Rattle.std.specs.List.{flat_map}
use Rattle.elf_load.specs.Start.{Program}
use Rattle.elf_load.specs.declared.image.ImagePage.{ImagePage}
use Rattle.elf_make.specs.Layout.{file_of}
use Rattle.elf_make.specs.declared.parts.Part.{Part}
use Rattle.elf_make.specs.declared.parts.Parts.{Parts}
use Rattle.guest_names.specs.declared.names.Name.{Name}
use Rattle.percpu_lib.specs.Lines.{AreEmitted}
use Rattle.rv_asm.specs.Assembly.{AreAssembled, Assembly, address_of, empty, index_of}
use Rattle.guest_programs.specs.Steps.{guest_lines}
use Rattle.guest_programs.specs.declared.layout.TheConstants.{CODE, CODE_SIZE, DATA_SIZE}
use Rattle.guest_programs.specs.declared.parts.TheConstants.{CODE_PERM, DATA_PERM, EF_RISCV_TSO}
use Rattle.guest_programs.specs.declared.labels.TheConstants.{BASE, LABELS, SECOND_BASE}

-- the address of a label, or 0
abbrev pub label_address : Assembly → ℕ → ℕ
label_address asm label = unwrap_or (address_of asm.at (index_of asm.labels label)) 0

-- the first bytes of the data, as words of 8 bytes: the size, the grace counter, zeros, and the descriptors of two
-- blocks (`struct rseq_cs`), each with version and flags, the start, how long the sequence is, and the abort address
abbrev pub data_words : Assembly → ℕ → List ℕ
data_words asm n =
    n ∷ 1 ∷ 0 ∷ 0
    ∷ 0
    ∷ label_address asm (BASE + 1)
    ∷ (label_address asm (BASE + 2) - label_address asm (BASE + 1))
    ∷ label_address asm (BASE + 3)
    ∷ 0
    ∷ label_address asm (SECOND_BASE + 1)
    ∷ (label_address asm (SECOND_BASE + 2) - label_address asm (SECOND_BASE + 1))
    ∷ label_address asm (SECOND_BASE + 3)
    ∷ []

abbrev pub data_bytes : Assembly → ℕ → List ℕ
data_bytes asm n = flat_map (λ w. to_le_bytes w64 w) (data_words asm n)

-- so many pages of data from a number on, all zeros but the first bytes of the first
abbrev pub filled : List ℕ → List ℕ
filled bytes = bytes ++ replicate (4096 - length bytes) 0

abbrev pub data_pages : ℕ → List ℕ → ℕ → List ImagePage
data_pages number bytes zero = []
data_pages number bytes (suc count) =
    record { number = number; perm = DATA_PERM; bytes = filled bytes } ∷ data_pages (number + 1) [] count

-- the program of this code and these first bytes of the data: a page of code, and 48 pages of data; the program headers
-- don't stand in memory
abbrev pub guest_program : List ℕ → List ℕ → Program
guest_program code first_bytes = record {
  pages = record { number = 0x10; perm = CODE_PERM; bytes = filled code } ∷ data_pages 0x20 first_bytes 48;
  entry = CODE;
  phdr = 0;
  phnum = 2;
  break_at = 0x50000;
}

-- a part of a program: where it begins in memory, what is allowed there, its first bytes, and how many bytes of
-- memory it has
pub record IsPart (part : Part) (from may : ℕ) (bytes : List ℕ) (long : ℕ) : Type 0 where
  pub begins : part.at ≡ from
  pub allowed : part.perm ≡ may
  pub holds : part.bytes.items ≡ bytes
  pub size : part.memsz ≡ long

-- the ELF file of a guest for a size, to the last byte: its code is that of all lines of the guest, assembled from
-- the address of the code on, and its data begin with the size and the descriptors; it starts at the first word
-- of the code, and needs the memory model Ztso (psABI for RISC-V, EF_RISCV_TSO)
pub record IsGuestElf (name : Name) (n : ℕ) (file : List ℕ) : Type 0 where
  pub asm : Assembly
  pub emitted : AreEmitted (guest_lines name) (empty CODE LABELS) asm
  pub code : List ℕ
  pub assembled : AreAssembled asm.labels asm.items code
  pub parts : Parts
  pub code_part : Part
  pub data_part : Part
  pub segments : parts.segments.items ≡ code_part ∷ data_part ∷ []
  pub code_is : IsPart code_part CODE CODE_PERM code CODE_SIZE
  pub data_is : IsPart data_part 0x20000 DATA_PERM (data_bytes asm n) DATA_SIZE
  pub entry : parts.entry ≡ CODE
  pub flags : parts.flags ≡ EF_RISCV_TSO
  pub bytes : file ≡ file_of parts
