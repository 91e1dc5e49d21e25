-- What a rule may read at a place of a log, and what an event did.
use Rattle.std.specs.Prelude.{ℕ, Bool, false, List, [], if◌then◌else◌, Option, Some, None}
use Rattle.mach_types.specs.declared.limits.End.{End}
use Rattle.mach_types.specs.declared.sequences.Outcome.{Outcome}
use Rattle.mach_types.specs.declared.threads.Saved.{Saved}
use Rattle.mach_types.specs.declared.user_memory.Store.{Store}
use Rattle.mach_types.specs.declared.user_memory.Write.{Write}
use Rattle.block_model.specs.Beside.{Neighbour, or_in_segment, with_segment}
use Rattle.block_model.specs.Record.{Kernel}
use Rattle.mach_types.specs.Kernel.Pages.{permission_at, can_read, can_write}
use Rattle.mach_types.specs.Kernel.Threads.{running_on}
use Rattle.rv_inst.specs.Execution.{seen_byte}
use Rattle.block_model.specs.Setting.{Setting}

-- a barrier: the harts that have to take its request, and whether it asks that their restartable sequences be begun anew
pub record Barrier : Type 0 where
  pub targets : ℕ
  pub restart : Bool

-- the setting; the hart that is asked; the file of each thread; each byte of memory; the waiting stores of each hart, the oldest
-- first; where the aligned 8 bytes begin that the hart has reserved; the harts whose barriers have requests pending at the hart, and
-- whether one of these asks for a restart; the harts that the barrier of the hart's thread waits for, where the thread waits in one;
-- the kernel's record; and what stands beside the process on its machine
pub record Here : Type 0 where
  pub setting : Setting
  pub hart : ℕ
  pub file : ℕ → Saved
  pub byte : ℕ → ℕ
  pub waiting : ℕ → List Store
  pub reserved : Option ℕ
  pub requests : ℕ
  pub restart : Bool
  pub awaits : Option ℕ
  pub kernel : Kernel
  pub beside : Option Neighbour

-- a byte of memory, where it can be read
abbrev pub memory_in : Kernel → (ℕ → ℕ) → ℕ → Option ℕ
memory_in k byte a = if can_read (permission_at k.pages a) then Some (byte a) else None

abbrev pub memory : Here → ℕ → Option ℕ
memory here = memory_in here.kernel here.byte

-- whether the byte at an address can be written
abbrev pub writable_in : Kernel → ℕ → Bool
writable_in k a = can_write (permission_at k.pages a)

abbrev pub is_writable : Here → ℕ → Bool
is_writable here = writable_in here.kernel

-- the same for instructions, which reach the bytes of a segment too
abbrev pub reached : Here → ℕ → Option ℕ
reached here = with_segment here.beside (memory here)

abbrev pub is_storable : Here → ℕ → Bool
is_storable here = or_in_segment here.beside (is_writable here)

-- the stores that wait on the hart
abbrev pub waiting_here : Here → List Store
waiting_here here = here.waiting here.hart

-- a byte as the hart sees it: its youngest waiting store that has it, or else memory's
abbrev pub view : Here → ℕ → Option ℕ
view here = seen_byte (waiting_here here) (memory here)

-- the same as an instruction sees it
abbrev pub view_of_all : Here → ℕ → Option ℕ
view_of_all here = seen_byte (waiting_here here) (reached here)

-- the thread that runs on the hart
abbrev pub runs : Here → Option ℕ
runs here = running_on here.hart here.kernel.threads

-- what an event did: the files of threads that it set; the plain store that it executed (none or one); how many waiting
-- stores of its hart entered memory; the writes that entered memory in it, in order; its hart's reservation after it;
-- the barrier that its thread began; whether its hart took the requests that were pending there; whether the barrier of its thread
-- returned; whether it is a `run`; what the interruption of its thread came to, where it is a `run`, a `signal`, or a `take` that asks a
-- running thread to restart; how many instructions were executed (none or one); the kernel's record after it; and how it ended
-- the process
pub record Done : Type 0 where
  pub files : List (ℕ × Saved)
  pub executed : List Store
  pub drained : ℕ
  pub entered : List Write
  pub reserved : Option ℕ
  pub barrier : Option Barrier
  pub took : Bool
  pub returned : Bool
  pub started : Bool
  pub interrupted : Option Outcome
  pub instructions : ℕ
  pub kernel : Kernel
  pub ended : Option End

-- an event that does nothing but stand in the log, where its hart has this reservation and the kernel this record
abbrev pub nothing_with : Option ℕ → Kernel → Done
nothing_with reserved kernel = record {
  files = [];
  executed = [];
  drained = 0;
  entered = [];
  reserved = reserved;
  barrier = None;
  took = false;
  returned = false;
  started = false;
  interrupted = None;
  instructions = 0;
  kernel = kernel;
  ended = None;
}

abbrev pub nothing : Here → Done
nothing here = nothing_with here.reserved here.kernel
