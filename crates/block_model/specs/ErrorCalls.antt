-- Guest calls that give an error (Linux for RISC-V): after such a call its thread goes on, and the negative
-- of an error number is in its a0.
use Rattle.std.specs.Prelude.{ℕ, ◌≡◌, ◌≢◌, ◌≤◌, ◌∷◌, true, None, Some}
use Rattle.mach_types.specs.Events.{choice_of}
use Rattle.mach_types.specs.Kernel.Threads.{is_live}
use Rattle.mach_types.specs.Registers.{register}
use Rattle.mach_types.specs.declared.events.Choice.TheVariants as asked
use Rattle.mach_types.specs.declared.events.Entry.{Entry}
use Rattle.rv_inst.specs.declared.effects.Effect.TheVariants.{Call}
use Rattle.block_model.specs.Calls.Answers.{call_number, negative, returned}
use Rattle.block_model.specs.Deciding.{done, event}
use Rattle.block_model.specs.Events.Exec.{next_effect}
use Rattle.block_model.specs.Here.{Here}
use Rattle.block_model.specs.History.{History, byte, file, here_in_history, kernel}
use Rattle.block_model.specs.Setting.{Setting}

-- what happened up to an entry, with the entry
abbrev pub up_to : Setting → History → Entry → History
up_to s before entry = event s before entry ∷ before

-- an entry is a guest call: its thread executes its next instruction, which is ECALL
pub record IsCall (here : Here) (entry : Entry) : Type 0 where
  pub executes : choice_of entry ≡ asked.Exec
  pub calls : next_effect here entry.tid.0 ≡ Some Call

-- a value is the negative of an error number, which is 1 to 4,095
pub record IsError (value : ℕ) : Type 0 where
  pub errno : ℕ
  pub least : 1 ≤ errno
  pub most : errno ≤ 4095
  pub is : value ≡ negative errno

-- a guest call gives an error: it isn't rt_sigreturn, which gives no answer (sigreturn(2)); it ends neither the process nor its
-- thread, and its thread then has an error in a0
pub record GivesError (s : Setting) (before : History) (entry : Entry) : Type 0 where
  pub call : IsCall (here_in_history s before entry.hart.0) entry
  pub answers : call_number (here_in_history s before entry.hart.0) entry.tid.0 ≢ 139
  pub goes_on : (done s before entry).ended ≡ None
  pub stays : is_live entry.tid.0 (kernel s (up_to s before entry)).threads ≡ true
  pub error : IsError (register (file s entry.tid.0 (up_to s before entry)).file 10)

-- of thread files, memory and the kernel's record an entry changes only a0 and the pc of its thread: an error
-- is in a0, and the pc is past the call
pub record GivesErrorAlone (s : Setting) (before : History) (entry : Entry) : Type 0 where
  pub value : ℕ
  pub error : IsError value
  pub own : file s entry.tid.0 (up_to s before entry) ≡ returned value (file s entry.tid.0 before)
  pub others : (t : ℕ) → t ≢ entry.tid.0 → file s t (up_to s before entry) ≡ file s t before
  pub memory : (a : ℕ) → byte s (up_to s before entry) a ≡ byte s before a
  pub same_record : kernel s (up_to s before entry) ≡ kernel s before
