-- What holds of the threads of a process together with their scheduling, their signals and their areas at each place of a block run.
use Rattle.std.specs.Prelude.{ℕ, ◌≡◌, ◌<◌, ◌≤◌, if◌then◌else◌, List, Some, map, true}
use Rattle.std.specs.List.{list_any}
use Rattle.mach_types.specs.declared.events.Hart.{Hart}
use Rattle.mach_types.specs.declared.threads.ThreadState.{ThreadState}
use Rattle.mach_types.specs.declared.threads.ThreadState.TheVariants.{Running}
use Rattle.mach_types.specs.Kernel.Areas.{is_area_of}
use Rattle.mach_types.specs.declared.sequences.Area.{Area}
use Rattle.mach_types.specs.Kernel.Threads.{Threads, IsThreads, state_of, is_ready, is_live, numbers, times}
use Rattle.mach_types.specs.Kernel.Scheduling.{Scheduling, affinity_of, has_hart, is_of}
use Rattle.mach_types.specs.Kernel.Signals.{Signalling}
use Rattle.block_model.specs.Ids.{AreIdsApart}
use Rattle.block_model.specs.Record.{Kernel}

-- the state of a thread that runs on hart h
abbrev pub on : ℕ → ThreadState
on h = Running (record { 0 = h })

-- a hart runs at most one thread, and only the machine's harts run one; a thread is once in the ready list where it is ready,
-- and else not; and the threads that have an affinity are the live ones, in the same order
pub record IsTables (harts : ℕ) (ts : Threads) (sc : Scheduling) : Type 0 where
  pub threads : IsThreads ts
  pub one : (h t u : ℕ) → state_of t ts ≡ Some (on h) → state_of u ts ≡ Some (on h) → t ≡ u
  pub below : (t : ℕ) (k : Hart) → state_of t ts ≡ Some (Running k) → k.0 < harts
  pub ready : (t : ℕ) → times t sc.order ≡ (if is_ready t ts then 1 else 0)
  pub held : (t : ℕ) → list_any (is_of t) sc.affinities ≡ is_live t ts
  pub alike : map (λ pair. pair.0) sc.affinities ≡ numbers ts.live

-- each registered area is that of a live thread, and a thread has at most one
pub record AreOfLive (ts : Threads) (areas : List (ℕ × Area)) : Type 0 where
  pub live : (t : ℕ) → list_any (is_area_of t) areas ≡ true → is_live t ts ≡ true
  pub one : (t : ℕ) → times t (map (λ pair. pair.0) areas) ≤ 1

-- the threads of which a mask and pending signals are kept are the live ones, in the same order
abbrev pub AreSignalsOfLive : Threads → Signalling → Type 0
AreSignalsOfLive ts g = map (λ th. th.tid) g.threads ≡ numbers ts.live

-- each live thread may run on some hart of the machine
abbrev pub AllAllowed : ℕ → Threads → Scheduling → Type 0
AllAllowed harts ts sc =
    0 < harts → (t : ℕ) → is_live t ts ≡ true → (h : ℕ) × (h < harts) × (has_hart (affinity_of t sc) h ≡ true)

-- what the kernel's record holds for threads: ids for those that run, on a machine of at most 8 harts, as many as
-- there are ids; and areas and signals for live ones alone
pub record IsHeld (harts : ℕ) (k : Kernel) : Type 0 where
  pub ids : harts ≤ 8 → AreIdsApart k.threads k.ids
  pub areas : AreOfLive k.threads k.areas
  pub signals : AreSignalsOfLive k.threads k.signals
