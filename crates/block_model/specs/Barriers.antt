-- Barriers that returned (membarrier(2)): what a barrier call promises of the harts that it is about, said where it returns and read by
-- looking back from there. A call about no hart returns at once, and promises nothing.
use Rattle.std.specs.Prelude.{ℕ, ◌≡◌, ◌≤◌, true, List, [], ◌∷◌, ◌++◌, length, if◌then◌else◌, Option, Some, None}
use Rattle.mach_types.specs.Kernel.Scheduling.{has_hart}
use Rattle.mach_types.specs.declared.events.Kind.TheVariants as kind
use Rattle.block_model.specs.Acts.{Sequence, sequence_on}
use Rattle.block_model.specs.Here.{Barrier}
use Rattle.block_model.specs.History.{Event, History, drains, is_of_hart, running, stores}
use Rattle.block_model.specs.Setting.{Setting}

-- a barrier that a hart's thread began: what happened before its call, and the barrier
pub record Begun : Type 0 where
  pub call : History
  pub barrier : Barrier

-- the newest barrier that the thread of hart h began
abbrev pub begun_or : Option Begun → History → Option Barrier → Option Begun
begun_or earlier before None = earlier
begun_or earlier before (Some barrier) = Some (record { call = before; barrier = barrier })

abbrev pub begun_on : ℕ → History → Option Begun
begun_on h [] = None
begun_on h (e ∷ before) = if is_of_hart h e then begun_or (begun_on h before) before e.done.barrier else begun_on h before

-- each event of hart h among these is a `take`
abbrev pub TakesAlone : ℕ → List Event → Type 0
TakesAlone h [] = Unit {0}
TakesAlone h (e ∷ since) = TakesAlone h since × (is_of_hart h e ≡ true → e.entry.kind ≡ kind.Take)

-- a thread waits in a barrier that the thread of hart h began: what happened since is behind the event of its call, the thread that
-- made the call runs on the hart still, and the hart made no event since but takes of requests
pub record IsWaiting (s : Setting) (before : History) (h : ℕ) (b : Begun) : Type 0 where
  pub since : History
  pub call : Event
  pub parts : before ≡ since ++ call ∷ b.call
  pub of_hart : call.entry.hart.0 ≡ h
  pub began : call.done.barrier ≡ Some b.barrier
  pub stays : running s h before ≡ Some call.entry.tid.0
  pub alone : TakesAlone h since

-- what is promised of hart k where a barrier about it returns: each plain store that the hart executed before the call has entered
-- memory; and where the barrier asks for a restart, no restartable sequence goes on there that began before the call
pub record IsPassed (s : Setting) (before : History) (b : Begun) (k : ℕ) : Type 0 where
  pub entered : length (stores k b.call) ≤ drains k before
  pub anew : (q : Sequence) → b.barrier.restart ≡ true → sequence_on s k before ≡ Some q → length b.call ≤ length q.begun

-- the barrier that returns by event e is the newest that the thread of its hart began, and is passed by each hart that it is about
pub record IsProperReturn (s : Setting) (e : Event) (before : History) : Type 0 where
  pub begun : Begun
  pub newest : begun_on e.entry.hart.0 before ≡ Some begun
  pub passed : (k : ℕ) → has_hart begun.barrier.targets k ≡ true → IsPassed s before begun k

-- each barrier of a log that returned did so properly
abbrev pub HaveReturned : Setting → History → Type 0
HaveReturned s [] = Unit {0}
HaveReturned s (e ∷ before) = HaveReturned s before × (e.done.returned ≡ true → IsProperReturn s e before)
