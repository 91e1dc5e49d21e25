-- System calls of Linux for RISC-V: the number is in a7 (x17), arguments are in a0 to a5 (x10 to x15), the result is in
-- a0, and an error is its negative number. The pc goes on past the call.
use Rattle.std.specs.Prelude.{ℕ, ◌+◌, ◌-◌, ◌%◌, ◌^◌, Bool, if◌then◌else◌, List, [], ◌∷◌, Option, Some, None, is_some, unwrap_or}
use Rattle.mach_types.specs.Bytes.{each_byte, word_at}
use Rattle.mach_types.specs.Registers.{register, with_register}
use Rattle.mach_types.specs.declared.errors.Errno.{Errno}
use Rattle.mach_types.specs.declared.limits.End.{End}
use Rattle.mach_types.specs.declared.limits.End.TheVariants.{Killed}
use Rattle.mach_types.specs.declared.signals.TheConstants.{SIGSEGV}
use Rattle.mach_types.specs.declared.threads.Saved.{Saved}
use Rattle.mach_types.specs.declared.user_memory.Write.{Write}
use Rattle.mach_types.specs.declared.user_memory.Write.TheVariants.{Stored, Zeroed}
use Rattle.block_model.specs.Record.{Kernel}
use Rattle.rv_inst.specs.Words.{sum_64}
use Rattle.block_model.specs.Here.{Barrier, Here, memory, is_writable}

-- what a call did: the files of threads that it set; the kernel's writes, in order; the record after it; the barrier that it began;
-- and how it ended the process
pub record CallDone : Type 0 where
  pub files : List (ℕ × Saved)
  pub entered : List Write
  pub kernel : Kernel
  pub barrier : Option Barrier
  pub ended : Option End

-- the number of the call of thread t, and its argument k; the same as an `int`, which is the low 32 bits of its register
abbrev pub call_number : Here → ℕ → ℕ
call_number here t = register (here.file t).file 17

abbrev pub argument : Here → ℕ → ℕ → ℕ
argument here t k = register (here.file t).file (10 + k)

abbrev pub int_argument : Here → ℕ → ℕ → ℕ
int_argument here t k = argument here t k % 2 ^ 32

-- a negative number as a register holds it
abbrev pub negative : ℕ → ℕ
negative n = 2 ^ 64 - n

-- the file after a call that answers: the answer is in a0, and the pc goes on past the call
abbrev pub returned : ℕ → Saved → Saved
returned n f = record { file = with_register f.file 10 n; pc = sum_64 f.pc 4 }

-- a call that answers, and does nothing else
abbrev pub said : Here → ℕ → ℕ → CallDone
said here t n = record { files = (t, returned n (here.file t)) ∷ []; entered = []; kernel = here.kernel; barrier = None; ended = None }

-- so many bytes from an address on can be read, or written; no byte is asked about where there are none
abbrev pub are_readable : Here → ℕ → ℕ → Bool
are_readable here at len = each_byte (λ a. is_some (memory here a)) at len

abbrev pub are_writable : Here → ℕ → ℕ → Bool
are_writable here at len = each_byte (is_writable here) at len

-- the kernel's write of a byte, of a u32, or of 8 bytes
abbrev pub byte_written : ℕ → ℕ → Write
byte_written at value = Stored (record { at = at; size = 1; value = value })

abbrev pub word_written : ℕ → ℕ → Write
word_written at value = Stored (record { at = at; size = 4; value = value })

abbrev pub double_written : ℕ → ℕ → Write
double_written at value = Stored (record { at = at; size = 8; value = value })

-- the kernel's write of so many zeros
abbrev pub zeros_written : ℕ → ℕ → Write
zeros_written at count = Zeroed at count

-- the number of so many bytes from an address on, 0 where they can't be read
abbrev pub number_at : Here → ℕ → ℕ → ℕ
number_at here at size = unwrap_or (word_at (memory here) at size) 0

-- a call that is refused: nothing changes but a0 and the pc
abbrev pub refused : Here → ℕ → Errno → CallDone
refused here t errno = said here t (negative errno.0)

-- the errors of a call, each where its test holds, in the order in which they are tested: the call is refused
-- by the first, and where none holds it does what follows
abbrev pub Errors : Type 0
Errors = List (Bool × Errno)

abbrev pub unless : Here → ℕ → Errors → CallDone → CallDone
unless here t [] done = done
unless here t (e ∷ es) done = if e.0 then refused here t e.1 else unless here t es done

-- a call that kills the process, as SIGSEGV does, and changes nothing else
abbrev pub killed_in_call : Here → CallDone
killed_in_call here = record { files = []; entered = []; kernel = here.kernel; barrier = None; ended = Some (Killed SIGSEGV) }
