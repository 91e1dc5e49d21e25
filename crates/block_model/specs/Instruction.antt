-- The next instruction of a thread: its word, its row, its effect, and the fault that it makes (RISC-V Unprivileged
-- ISA; which signal a fault is, and what it says of itself: own, as Linux has it).
use Rattle.std.specs.Prelude.{ℕ, ◌+◌, ◌-◌, ◌%◌, ◌^◌, ◌==◌, ◌&&◌, Bool, List, if◌then◌else◌, Option, Some, None, is_some}
use Rattle.std.specs.Option.{option_map, option_map_or, option_and_then}
use Rattle.mach_types.specs.declared.signal_words.Fault.{Fault}
use Rattle.mach_types.specs.declared.signals.TheConstants.{BUS_ADRALN, ILL_ILLOPC, SEGV_ACCERR, SEGV_MAPERR, SIGILL, SIGBUS, SIGSEGV, TRAP_BRKPT}
use Rattle.mach_types.specs.declared.threads.Saved.{Saved}
use Rattle.elf_load.specs.declared.image.ImagePage.{ImagePage}
use Rattle.elf_load.specs.Start.{code_word}
use Rattle.rv_inst.specs.declared.effects.Effect.{Effect}
use Rattle.rv_inst.specs.declared.instruction.Inst.{Inst}
use Rattle.rv_inst.specs.Class.{asks}
use Rattle.rv_inst.specs.Execution.{fault_in}
use Rattle.rv_inst.specs.Meaning.{meaning}
use Rattle.rv_inst.specs.Table.{row_of}

-- the word that is fetched: instructions stand at multiples of 4, where their bytes may be executed
abbrev pub fetched : List ImagePage → ℕ → Option ℕ
fetched pages pc = if pc % 4 == 0 then code_word pages pc else None

-- the next instruction of a file, and what it asks for, where a word is fetched and has a row
abbrev pub instruction_of : Option ℕ → Option Inst
instruction_of word = option_and_then row_of word

abbrev pub next_instruction : List ImagePage → Saved → Option Inst
next_instruction pages f = instruction_of (fetched pages f.pc)

abbrev pub effect_of : Option ℕ → Saved → Option Effect
effect_of word f = option_map (λ i. meaning i f.file f.pc) (instruction_of word)

abbrev pub next_effect : List ImagePage → Saved → Option Effect
next_effect pages f = effect_of (fetched pages f.pc) f

-- the signal of an instruction that isn't fetched or has no row: an address that isn't a multiple of 4 (SIGBUS),
-- bytes that may not be executed (SIGSEGV), a word without a row (SIGILL)
abbrev pub fetch_fault : ℕ → Option ℕ → ℕ
fetch_fault pc None = if pc % 4 == 0 then SIGSEGV else SIGBUS
fetch_fault pc (Some word) = SIGILL

-- the signal of the first fault of the next instruction, none where it has no fault
abbrev pub fault_by : (ℕ → Option ℕ) → (ℕ → Bool) → ℕ → Option ℕ → Option Effect → Option ℕ
fault_by byte writable pc word None = Some (fetch_fault pc word)
fault_by byte writable pc word (Some e) = fault_in byte writable e

abbrev pub next_fault : List ImagePage → (ℕ → Option ℕ) → (ℕ → Bool) → Saved → Option ℕ
next_fault pages byte writable f = fault_by byte writable f.pc (fetched pages f.pc) (next_effect pages f)

-- where the access of an instruction begins, and how many bytes it has: of one without an access, and where none was fetched or
-- the word has no row, the 4 bytes at the pc
abbrev pub reach_of : ℕ → Option Effect → ℕ × ℕ
reach_of pc e = option_map_or (λ a. (a.at, a.size)) (option_and_then (λ e. (asks e).access) e) (pc, 4)

-- si_code of SIGSEGV, over the permission of the page of each address: whether the pages of the first and the last byte of the
-- access are mapped, or one isn't
abbrev pub segment_code : (ℕ → Option ℕ) → ℕ × ℕ → ℕ
segment_code permission reach =
    if is_some (permission reach.0) && is_some (permission ((reach.0 + (reach.1 - 1)) % 2 ^ 64)) then SEGV_ACCERR else SEGV_MAPERR

-- si_code, by the signal
abbrev pub code_told : (ℕ → Option ℕ) → ℕ × ℕ → ℕ → ℕ
code_told permission reach signal =
    if signal == SIGSEGV then segment_code permission reach
    else if signal == SIGILL then ILL_ILLOPC
    else if signal == SIGBUS then BUS_ADRALN
    else TRAP_BRKPT

-- what a fault with this signal of the next instruction says of itself (sigaction(2), siginfo_t). Of SIGSEGV si_addr is the address
-- of the access, also where only its second page can't be used (own); of every other signal it is the pc, as Linux has it on RISC-V
abbrev pub told_by : (ℕ → Option ℕ) → ℕ → Option Effect → ℕ → Fault
told_by permission pc e signal = record {
  signal = signal;
  code = code_told permission (reach_of pc e) signal;
  address = if signal == SIGSEGV then (reach_of pc e).0 else pc;
}
