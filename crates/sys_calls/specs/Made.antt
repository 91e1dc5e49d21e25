-- A call over the tables, the page map and the caller's registers, as the definitions of calls say it.
use Rattle.std.specs.Prelude.{ℕ, ◌≡◌, ◌≢◌, ◌⊎◌, ◌/◌, Bool, true, false, if◌then◌else◌, Option, Some, None}
use Rattle.std.specs.Option.{option_map}
use Rattle.std.specs.Int.{cast_unsigned, w64}
use Rattle.mach_types.specs.Bytes.{written}
use Rattle.mach_types.specs.Registers.{register}
use Rattle.mach_types.specs.declared.events.Hart.{Hart}
use Rattle.mach_types.specs.declared.events.Tid.{Tid}
use Rattle.mach_types.specs.declared.limits.End.{End}
use Rattle.mach_types.specs.declared.threads.Saved.{Saved}
use Rattle.mach_types.specs.declared.threads.ThreadState.TheVariants.{Ready}
use Rattle.mach_types.specs.Kernel.Threads.{Threads, running_on, runs, state_of, waits}
use Rattle.kernel_threads.specs.Table.{Table, saved_of}
use Rattle.mach_types.specs.declared.address_space.TheConstants.{PAGE_SIZE}
use Rattle.mach_types.specs.Kernel.Pages.{Pages, permission_of}
use Rattle.page_map.specs.Map.{Map, break_in, break_start_in, code_in, free_in, held_in, permission_in}
use Rattle.block_model.specs.Here.{Barrier, Here}
use Rattle.block_model.specs.History.{file_among}
use Rattle.block_model.specs.Ids.{id_of, without_id}
use Rattle.block_model.specs.Calls.Answers.{CallDone, call_number}
use Rattle.block_model.specs.Calls.Barriers.{running_harts}
use Rattle.sys_calls.specs.Tables.{HoldsTables}
use Rattle.sys_calls.specs.declared.kernel.Kernel.{Kernel}
use Rattle.sys_calls.specs.declared.calling.CallEnd.{CallEnd}
use Rattle.sys_calls.specs.declared.calling.CallEnd.TheVariants as over

-- what is kept of each thread that doesn't run is its file
abbrev pub AreSaved : (ℕ → Saved) → Table → Type 0
AreSaved file table = (u : ℕ) (x : Saved) → saved_of u table.saved ≡ Some x → x ≡ file u

-- the page map has these pages of a process, whose data ends at this lowest break, and on each of them these bytes of memory
pub record HoldsPages (pages : Pages) (lowest_break : ℕ) (byte : ℕ → ℕ) (m : Map) : Type 0 where
  pub permissions : (n : ℕ) → permission_in m n ≡ permission_of pages.runs n
  pub held : (a : ℕ) → held_in m a ≡ option_map (λ _. byte a) (permission_of pages.runs (a / PAGE_SIZE))
  pub free : free_in m ≡ pages.free
  pub break_at : break_in m ≡ pages.break_at
  pub break_start : break_start_in m ≡ lowest_break

-- a rule may read here what the page map holds
abbrev pub HasPages : Here → Map → Type 0
HasPages h m = HoldsPages h.kernel.pages h.setting.program.break_at h.byte m

-- the call of thread t reads nothing of another process: there is none, or it is neither membarrier(2) nor rseq(2)
abbrev pub IsOwnCall : Here → ℕ → Type 0
IsOwnCall h t = (h.beside ≡ None) ⊎ ((call_number h t ≢ 283) × (call_number h t ≢ 293))

-- a rule may read here what the tables, the page map and the caller's registers hold, and what is saved of the threads that don't
-- run; threads run on this set of harts, and the caller holds this concurrency id
pub record IsAt (h : Here) (k : Kernel) (m : Map) (here : Hart) (busy : ℕ) (harts : ℕ) (tid : Tid) (saved : Saved) (cid : ℕ) : Type 0 where
  pub hart : h.hart ≡ here.0
  pub count : h.setting.limits.harts ≡ harts
  pub tables : HoldsTables k h.kernel
  pub running : running_harts h.kernel.threads h.setting.limits.harts ≡ busy
  pub pages : HasPages h m
  pub file : saved ≡ h.file tid.0
  pub id : id_of tid.0 h.kernel.ids ≡ cid
  pub own : IsOwnCall h tid.0
  pub kept : AreSaved h.file k.threads

-- whether the thread gave up its hart
abbrev pub gives_up : CallEnd → Bool
gives_up (over.Return answer) = false
gives_up over.Block = true
gives_up (over.Leave answer) = true
gives_up over.Resume = false
gives_up (over.Barrier targets restart) = false
gives_up over.ThreadEnd = true
gives_up (over.ProcessEnd e) = false

-- how the process ended
abbrev pub process_end : CallEnd → Option End
process_end (over.Return answer) = None
process_end over.Block = None
process_end (over.Leave answer) = None
process_end over.Resume = None
process_end (over.Barrier targets restart) = None
process_end over.ThreadEnd = None
process_end (over.ProcessEnd e) = Some e

-- the barrier that the thread waits in
abbrev pub barrier_of : CallEnd → Option Barrier
barrier_of (over.Return answer) = None
barrier_of over.Block = None
barrier_of (over.Leave answer) = None
barrier_of over.Resume = None
barrier_of (over.Barrier targets restart) = Some (record { targets = targets; restart = restart })
barrier_of over.ThreadEnd = None
barrier_of (over.ProcessEnd e) = None

-- how the thread stands once its call ended so: it runs on, with an answer or from a signal frame, it waits, it is ready, or it is
-- gone; one that waits in a barrier keeps its hart, and one that ends the process still runs
abbrev pub StandsSo : CallEnd → ℕ → Threads → Type 0
StandsSo (over.Return answer) t ts = runs ts t
StandsSo over.Block t ts = waits ts t
StandsSo (over.Leave answer) t ts = state_of t ts ≡ Some Ready
StandsSo over.Resume t ts = runs ts t
StandsSo (over.Barrier targets restart) t ts = runs ts t
StandsSo over.ThreadEnd t ts = state_of t ts ≡ None
StandsSo (over.ProcessEnd e) t ts = runs ts t

-- the answer that is told is the one in a0
abbrev pub IsAnswer : CallEnd → Saved → Type 0
IsAnswer (over.Return answer) x = cast_unsigned w64 answer ≡ register x.file 10
IsAnswer over.Block x = Unit {0}
IsAnswer (over.Leave answer) x = cast_unsigned w64 answer ≡ register x.file 10
IsAnswer over.Resume x = Unit {0}
IsAnswer (over.Barrier targets restart) x = Unit {0}
IsAnswer over.ThreadEnd x = Unit {0}
IsAnswer (over.ProcessEnd e) x = Unit {0}

-- the tables, the page map and the caller's registers were changed as the call did, and nothing else was; a caller that gave up its
-- hart holds no concurrency id any more, and no other id changes hands; and so the call ended
pub record IsMade (h : Here) (t : ℕ) (k : Kernel) (m : Map) (k' : Kernel) (m' : Map) (saved : Saved) (end : CallEnd) (c : CallDone) : Type 0 where
  pub tables : HoldsTables k' c.kernel
  pub ids : c.kernel.ids ≡ (if gives_up end then without_id t h.kernel.ids else h.kernel.ids)
  pub kept : AreSaved h.file k.threads → AreSaved (λ u. file_among c.files u (h.file u)) k'.threads
  pub own : saved ≡ file_among c.files t (h.file t)
  pub pages : HoldsPages c.kernel.pages h.setting.program.break_at (λ a. written c.entered a (h.byte a)) m'
  pub code : (a : ℕ) → code_in m' a ≡ code_in m a
  pub hart : running_on h.hart c.kernel.threads ≡ (if gives_up end then None else Some t)
  pub stands : StandsSo end t c.kernel.threads
  pub barrier : barrier_of end ≡ c.barrier
  pub ended : process_end end ≡ c.ended
  pub answer : IsAnswer end saved
