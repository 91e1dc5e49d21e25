-- How a loaded program starts as a process: its pages, the stack and the page that signal handlers return to, and the words
-- on the stack, which are those of Linux for a static program (System V ABI, "Process Initialization": argument count,
-- arguments, environment, auxiliary vector). Where the stack and the return page lie is own.
use Rattle.std.specs.Prelude.{ℕ, ◌+◌, ◌/◌, ◌%◌, ◌==◌, List, [], ◌∷◌, ◌++◌, map, if◌then◌else◌, Option, Some, None, find, slice_index}
use Rattle.mach_types.specs.Bytes.{word_at, byte_of, overlay}
use Rattle.mach_types.specs.Registers.{no_registers, with_register}
use Rattle.mach_types.specs.Kernel.Pages.{PageRun, is_in, permission_of, can_execute}
use Rattle.mach_types.specs.declared.address_space.TheConstants.{PAGE_SIZE, FIRST_STACK_PAGE, STACK_PAGES, RETURN_PAGE, START_SP, NAME_AT}
use Rattle.mach_types.specs.declared.threads.Saved.{Saved}
use Rattle.mach_types.specs.declared.user_memory.Store.{Store}
use Rattle.elf_load.specs.declared.image.Image.{Image}
use Rattle.elf_load.specs.declared.image.ImagePage.{ImagePage}

-- a loaded program, as plain values: its pages in rising order, the entry, where the program headers stand and how many they
-- are, and the end of the highest page
pub record Program : Type 0 where
  pub pages : List ImagePage
  pub entry : ℕ
  pub phdr : ℕ
  pub phnum : ℕ
  pub break_at : ℕ

abbrev pub program_of : Image → Program
program_of image = record { pages = image.pages.items; entry = image.entry; phdr = image.phdr; phnum = image.phnum; break_at = image.break_at }

-- the 64 pages of the stack, which end at 0x3FFFF40000, and the page that signal handlers return to
abbrev pub stack_run : PageRun
stack_run = record { first = FIRST_STACK_PAGE; count = STACK_PAGES; permission = Some 6 }

abbrev pub return_run : PageRun
return_run = record { first = RETURN_PAGE; count = 1; permission = Some 5 }

abbrev pub image_run : ImagePage → PageRun
image_run p = record { first = p.number; count = 1; permission = Some p.perm }

-- what is mapped at the start, and with which permission: the stack, the return page, and the program's pages
abbrev pub start_runs : List ImagePage → List PageRun
start_runs pages = stack_run ∷ return_run ∷ map image_run pages

-- the page with a number
abbrev pub page_of : List ImagePage → ℕ → Option ImagePage
page_of pages n = find (λ p. p.number == n) pages

-- the words of the return page, of 8 bytes: `addi x17, x0, 139` and `ecall`, the same once more, then zeros
abbrev pub return_words : List ℕ
return_words = 0x0000007308B00893 ∷ 0x0000007308B00893 ∷ []

abbrev pub return_byte : ℕ → ℕ
return_byte offset = byte_of (slice_index return_words (offset / 8)) (offset % 8)

abbrev pub image_byte : Option ImagePage → ℕ → ℕ
image_byte None offset = 0
image_byte (Some p) offset = slice_index p.bytes offset

-- a byte of page n before the kernel writes the stack, and the same of an address
abbrev pub page_byte : List ImagePage → ℕ → ℕ → ℕ
page_byte pages n offset =
    if is_in stack_run n then 0
    else if is_in return_run n then return_byte offset
    else image_byte (page_of pages n) offset

abbrev pub loaded_byte : List ImagePage → ℕ → ℕ
loaded_byte pages a = page_byte pages (a / PAGE_SIZE) (a % PAGE_SIZE)

-- the byte at an address, where it may be executed
abbrev pub code_byte : List ImagePage → ℕ → Option ℕ
code_byte pages a = if can_execute (permission_of (start_runs pages) (a / PAGE_SIZE)) then Some (loaded_byte pages a) else None

-- the instruction word at an address, where its four bytes may be executed
abbrev pub code_word : List ImagePage → ℕ → Option ℕ
code_word pages a = word_at (code_byte pages) a 4

-- the words from the stack pointer on: the argument count, the one argument, the ends of the arguments and of the
-- environment, and the pairs of the auxiliary vector: AT_PHDR 3, AT_PHENT 4, AT_PHNUM 5, AT_PAGESZ 6, AT_ENTRY 9,
-- AT_RANDOM 25, AT_RSEQ_FEATURE_SIZE 27, AT_RSEQ_ALIGN 28, AT_NULL 0
abbrev pub start_words : Program → List ℕ
start_words p =
    1 ∷ NAME_AT ∷ 0 ∷ 0
    ∷ 3 ∷ p.phdr ∷ 4 ∷ 56 ∷ 5 ∷ p.phnum ∷ 6 ∷ PAGE_SIZE ∷ 9 ∷ p.entry ∷ 25 ∷ (NAME_AT + 16) ∷ 27 ∷ 28 ∷ 28 ∷ 32 ∷ 0 ∷ 0 ∷ []

-- words of 8 bytes that stand one behind the other, as stores
abbrev pub stored_from : ℕ → List ℕ → List Store
stored_from at [] = []
stored_from at (w ∷ ws) = record { at = at; size = 8; value = w } ∷ stored_from (at + 8) ws

-- the letters `guest` as a word
abbrev pub name_word : ℕ
name_word = 0x7473657567

-- what the kernel writes on the stack before the process starts
abbrev pub start_stores : Program → List Store
start_stores p = stored_from START_SP (start_words p) ++ record { at = NAME_AT; size = 8; value = name_word } ∷ []

-- the byte of memory at an address when the process starts
abbrev pub start_byte : Program → ℕ → ℕ
start_byte p a = overlay (start_stores p) a (loaded_byte p.pages a)

-- the file of the first thread at its start: its pc is the entry, sp is x2, and all other registers are 0
abbrev pub start_file : Program → Saved
start_file p = record { file = with_register no_registers 2 START_SP; pc = p.entry }
