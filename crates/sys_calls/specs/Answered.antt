-- What a call answers whose thread goes on, and what it did.
use Rattle.std.specs.Prelude.{ℕ, ◌≡◌, ◌-◌, ◌^◌, ◌<◌, true, List, ◌∷◌, Some, None, Result, Ok, Err}
use Rattle.std.specs.Option.{option_map}
use Rattle.mach_types.specs.Bytes.{written as written_by}
use Rattle.mach_types.specs.Kernel.Threads.{is_live, running_on}
use Rattle.mach_types.specs.declared.errors.Errno.{Errno}
use Rattle.mach_types.specs.declared.threads.Saved.{Saved}
use Rattle.mach_types.specs.declared.user_memory.Write.{Write}
use Rattle.kernel_threads.specs.Table.{saved_of}
use Rattle.page_map.specs.Map.{Map, break_in, break_start_in, byte_in, can_write_in, code_in, free_in, held_in, permission_in}
use Rattle.block_model.specs.Here.{Here, memory, is_writable}
use Rattle.block_model.specs.History.{file_among}
use Rattle.block_model.specs.Tables.{IsTables}
use Rattle.block_model.specs.Calls.Answers.{CallDone, negative, returned}
use Rattle.sys_calls.specs.declared.kernel.Kernel.{Kernel}
use Rattle.sys_calls.specs.Made.{AreSaved, HasPages, HoldsPages}
use Rattle.sys_calls.specs.Signalled.{HoldSignals}
use Rattle.sys_calls.specs.Tables.{HoldsTables}

-- what a0 gets: the number, or the negative of the error number
abbrev pub answer_of : Result ℕ Errno → ℕ
answer_of (Ok n) = n
answer_of (Err e) = negative e.0

-- a rule may read here what the page map and the file of thread t hold
pub record IsRead (h : Here) (m : Map) (t : ℕ) (saved : Saved) : Type 0 where
  pub bytes : byte_in m ≡ memory h
  pub writable : can_write_in m ≡ is_writable h
  pub file : saved ≡ h.file t

-- these writes entered memory, and nothing else of the page map changed
pub record IsEntered (m : Map) (m' : Map) (writes : List Write) : Type 0 where
  pub bytes : (a : ℕ) → byte_in m' a ≡ option_map (written_by writes a) (byte_in m a)
  pub held : (a : ℕ) → held_in m' a ≡ option_map (written_by writes a) (held_in m a)
  pub code : (a : ℕ) → code_in m' a ≡ code_in m a
  pub permissions : (n : ℕ) → permission_in m' n ≡ permission_in m n
  pub free : free_in m' ≡ free_in m
  pub break_at : break_in m' ≡ break_in m
  pub break_start : break_start_in m' ≡ break_start_in m

-- the tables were changed as the call did, and the page map where it had the pages of the process, no code with it; its writes
-- were told; the thread runs on with this answer and waits in no barrier, no concurrency id changes hands, and the files of other threads that the call set are kept with them
pub record IsAnswered (h : Here) (t : ℕ) (k : Kernel) (m : Map) (k' : Kernel) (m' : Map) (written : List Write) (answer : Result ℕ Errno) (c : CallDone) : Type 0 where
  pub tables : HoldsTables k' c.kernel
  pub ids : c.kernel.ids ≡ h.kernel.ids
  pub pages : HasPages h m → HoldsPages c.kernel.pages h.setting.program.break_at (λ a. written_by c.entered a (h.byte a)) m'
  pub code : (a : ℕ) → code_in m' a ≡ code_in m a
  pub told : written ≡ c.entered
  pub hart : running_on h.hart c.kernel.threads ≡ running_on h.hart h.kernel.threads
  pub at_once : c.barrier ≡ None
  pub goes_on : c.ended ≡ None
  pub others : List (ℕ × Saved)
  pub files : c.files ≡ (t, returned (answer_of answer) (h.file t)) ∷ others
  pub kept : AreSaved h.file k.threads → AreSaved (λ u. file_among others u (h.file u)) k'.threads
  pub quiet : saved_of t k.threads.saved ≡ None → saved_of t k'.threads.saved ≡ None

-- the tables hold what holds at each place of a run
abbrev pub AreTables : Kernel → Type 0
AreTables k = (harts : ℕ) × IsTables harts k.threads.threads k.ready

-- a live thread may make a call after which it goes on: the tables hold, the signals are those of the live threads, and a number is
-- left for a child
pub record MayAnswer (k : Kernel) (t : ℕ) : Type 0 where
  pub tables : AreTables k
  pub signals : HoldSignals k
  pub live : is_live t k.threads.threads ≡ true
  pub numbers : k.threads.threads.given < 2 ^ 31 - 1

-- a thread calls: the tables hold, the signals are those of the live threads, it runs on the hart, and nothing is saved of it
pub record IsCaller (k : Kernel) (here : ℕ) (t : ℕ) : Type 0 where
  pub tables : AreTables k
  pub signals : HoldSignals k
  pub runs : running_on here k.threads.threads ≡ Some t
  pub quiet : saved_of t k.threads.saved ≡ None
