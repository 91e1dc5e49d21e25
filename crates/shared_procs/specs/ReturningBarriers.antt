-- Barriers of a pair that return (membarrier(2)): which one does, read by looking back from there. It is the newest
-- that a thread of the process which acts began on the hart.
use Rattle.std.specs.Prelude.{ℕ, Bool, true, false, not, ◌&&◌, ◌≢◌, ◌⊎◌, List, [], ◌∷◌, if◌then◌else◌, Option, Some, None}
use Rattle.mach_types.specs.declared.events.Entry.{Entry}
use Rattle.block_model.specs.Here.{Barrier}
use Rattle.shared_procs.specs.PairRuns.{PairEvent, PairHistory, pair_after, pair_history}
use Rattle.shared_procs.specs.Pairs.{Pair, PairSetting, on_hart, runs_in}
use Rattle.shared_procs.specs.StoresEntered.{is_on}

-- a barrier that a thread began: what happened before its call, and the barrier
pub record PairBegun : Type 0 where
  pub call : PairHistory
  pub barrier : Barrier

-- whether an event is one of process p on hart h
abbrev pub is_of_process : Bool → Bool → Bool
is_of_process p q = if p then q else not q

abbrev pub is_by : Bool → ℕ → PairEvent → Bool
is_by p h e = is_of_process p e.process && is_on h e

-- the newest barrier that a thread of process p began on hart h
abbrev pub begun_or : Option PairBegun → PairHistory → Option Barrier → Option PairBegun
begun_or earlier before None = earlier
begun_or earlier before (Some barrier) = Some (record { call = before; barrier = barrier })

abbrev pub begun_by : Bool → ℕ → PairHistory → Option PairBegun
begun_by p h [] = None
begun_by p h (e ∷ before) =
    if is_by p h e then begun_or (begun_by p h before) before e.done.barrier else begun_by p h before

-- the one that returns where `done` comes on hart h after a log
abbrev pub returning : PairSetting → List Entry → ℕ → Option PairBegun
returning s log h =
    let before = pair_history s log in
    begun_by (on_hart (pair_after s before) h) h before

-- a thread of one process or the other runs on a hart
abbrev pub IsBusy : Pair → ℕ → Type 0
IsBusy m k = (runs_in m false k ≢ None) ⊎ (runs_in m true k ≢ None)
