-- A local step: an instruction of a thread that no other thread can notice, and that comes to the same
-- whenever it is made. It changes registers and the pc alone. Either it reads nothing else, or it loads bytes
-- that no one else changes (own).
use Rattle.std.specs.Prelude.{ℕ, ◌≡◌, ◌<◌, ◌≤◌, ◌+◌, ◌⊎◌, Bool, true, Option, Some, None}
use Rattle.mach_types.specs.Registers.{with_register}
use Rattle.mach_types.specs.Kernel.Threads.{state_of}
use Rattle.mach_types.specs.declared.threads.ThreadState.{ThreadState}
use Rattle.mach_types.specs.declared.threads.ThreadState.TheVariants.{Ready, Running, Waiting}
use Rattle.rv_inst.specs.Execution.{is_readable, seen_byte, word_seen}
use Rattle.rv_inst.specs.Memory.{loaded}
use Rattle.mach_types.specs.declared.threads.Saved.{Saved}
use Rattle.rv_inst.specs.Words.{sum_64}
use Rattle.rv_inst.specs.declared.effects.Effect.{Effect}
use Rattle.rv_inst.specs.declared.effects.Effect.TheVariants as effect
use Rattle.block_model.specs.Here.{memory_in}
use Rattle.block_model.specs.Instruction.{next_effect}
use Rattle.block_model.specs.Plain.{Plain}
use Rattle.block_model.specs.Setting.{Setting}

-- the file after an effect that is of registers and the pc alone: one that sets a register, and a fence. A
-- fence changes nothing else: it can only be executed once no store of its hart waits that it has to wait for
abbrev pub local_after : Effect → Saved → Option Saved
local_after (effect.Next rd value to) f = Some (record { file = with_register f.file rd value; pc = to })
local_after (effect.Fence full) f = Some (record { file = with_register f.file 0 0; pc = sum_64 f.pc 4 })
local_after effect.FenceI f = Some (record { file = with_register f.file 0 0; pc = sum_64 f.pc 4 })
local_after (effect.Load at size is_signed rd) f = None
local_after (effect.Store at size value) f = None
local_after (effect.Amo op at size value rd) f = None
local_after (effect.Lr at size rd) f = None
local_after (effect.Sc at size value rd) f = None
local_after effect.Call f = None
local_after effect.Break f = None
local_after effect.Misaligned f = None

-- the next instruction of the first file is such a one, and leaves the second file
pub record IsLocalStep (s : Setting) (f g : Saved) : Type 0 where
  pub effect : Effect
  pub is : next_effect s.program.pages f ≡ Some effect
  pub leaves : local_after effect f ≡ Some g

-- the bytes as a thread in this state sees them: where it runs as its hart sees them, else as memory has them
abbrev pub seen_in : Plain → Option ThreadState → ℕ → Option ℕ
seen_in m None = memory_in m.kernel m.byte
seen_in m (Some Ready) = memory_in m.kernel m.byte
seen_in m (Some (Waiting at)) = memory_in m.kernel m.byte
seen_in m (Some (Running k)) = seen_byte (m.waiting k.0) (memory_in m.kernel m.byte)

-- the bytes as thread t sees them
abbrev pub seen_by : ℕ → Plain → ℕ → Option ℕ
seen_by t m = seen_in m (state_of t m.kernel.threads)

-- the file of a thread after a load into register rd
abbrev pub file_loaded : Saved → (ℕ → Option ℕ) → ℕ → ℕ → Bool → ℕ → Saved
file_loaded f byte at size is_signed rd = record {
  file = with_register f.file rd (loaded (word_seen byte at size) size is_signed);
  pc = sum_64 f.pc 4;
}

-- the next instruction of thread t loads bytes that it can read, each of them private to t, and leaves it
-- this file. Which bytes are private is a table; nothing is asked of it here, but that such a byte stays as
-- it is wherever another event comes (LeavesAreas)
pub record IsLoadStep (s : Setting) (private : ℕ → ℕ → Bool) (t : ℕ) (g : Saved) (m : Plain) : Type 0 where
  pub at : ℕ
  pub size : ℕ
  pub is_signed : Bool
  pub rd : ℕ
  pub is : next_effect s.program.pages (m.file t) ≡ Some (effect.Load at size is_signed rd)
  pub own : (a : ℕ) → at ≤ a → a < at + size → private t a ≡ true
  pub can_read : is_readable (seen_by t m) at size ≡ true
  pub leaves : g ≡ file_loaded (m.file t) (seen_by t m) at size is_signed rd

-- the next instruction of thread t is a local step, and leaves it this file
abbrev pub IsStepAt : Setting → (ℕ → ℕ → Bool) → ℕ → Saved → Plain → Type 0
IsStepAt s private t g m = IsLocalStep s (m.file t) g ⊎ IsLoadStep s private t g m
