-- The pages of a program, those that may be executed, and words in them.
use Rattle.std.specs.Prelude.{ℕ, ◌≡◌, ◌+◌, ◌*◌, Bool, List, filter, if◌then◌else◌, Option, Some, None, slice_index}
use Rattle.std.specs.List.{slice_get}
use Rattle.mach_types.specs.Kernel.Pages.{can_execute}
use Rattle.elf_load.specs.Start.{code_word}
use Rattle.elf_load.specs.declared.image.ImagePage.{ImagePage}
use Rattle.rv_inst.specs.declared.instruction.Inst.{Inst}
use Rattle.block_model.specs.Instruction.{instruction_of}

-- the word of four bytes, the lowest first
abbrev pub word_of : (ℕ → ℕ) → ℕ → ℕ
word_of byte k = byte k + 256 * (byte (k + 1) + 256 * (byte (k + 2) + 256 * byte (k + 3)))

abbrev pub word_in : List ℕ → ℕ → ℕ
word_in bytes k = word_of (slice_index bytes) k

-- the word at an offset of a page that may be executed
abbrev pub word_of_page : Option ImagePage → ℕ → Option ℕ
word_of_page None k = None
word_of_page (Some p) k = if can_execute (Some p.perm) then Some (word_in p.bytes k) else None

-- the instructions of the words of a program from an address on: each that is given is that of the word at its place
abbrev pub AreDecoded : List ImagePage → ℕ → List (Option Inst) → Type 0
AreDecoded pages first insts =
    (k : ℕ) (inst : Option Inst) → slice_get insts k ≡ Some inst → inst ≡ instruction_of (code_word pages (first + 4 * k))

-- the pages of a program that may be executed, in their order
abbrev pub is_executable : ImagePage → Bool
is_executable p = can_execute (Some p.perm)

abbrev pub code_of : List ImagePage → List ImagePage
code_of pages = filter is_executable pages
