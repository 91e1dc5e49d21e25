-- Barriers on harts (membarrier(2)): which harts run threads, what a barrier asks of a hart, and what a hart that takes its requests
-- makes of itself and of the others.
use Rattle.std.specs.Prelude.{ℕ, ◌≡◌, ◌==◌, ◌||◌, Bool, false, List, if◌then◌else◌, Option, None, is_some, slice_get}
use Rattle.std.specs.Option.{option_and_then, option_map, option_map_or, option_or}
use Rattle.mach_types.specs.Kernel.Areas.{pc_after}
use Rattle.mach_types.specs.Registers.{with_register}
use Rattle.mach_types.specs.declared.limits.End.{End}
use Rattle.mach_types.specs.declared.sequences.Outcome.{Outcome}
use Rattle.hart_state.specs.declared.hart.HartState.{HartState}
use Rattle.block_model.specs.Events.Take.{done_take, killed_by}
use Rattle.block_model.specs.Here.{Barrier, Here, runs}
use Rattle.block_model.specs.Requests.{is_about, restarts_at, with_hart, without_hart}
use Rattle.block_model.specs.Sequences.{interruption_here}
use Rattle.process.specs.Reservations.{lost_unless}
use Rattle.process.specs.Stored.{IsWritten}
use Rattle.process.specs.declared.parts.Parts.{Parts}

-- whether a thread runs on the hart with a number
abbrev pub is_busy : List HartState → ℕ → Bool
is_busy harts h = option_map_or (λ (x : HartState). is_some x.running) (slice_get harts h) false

-- hart k once hart h began a barrier, where it did: it has a request of it where the barrier is about it
abbrev pub asked_by : ℕ → ℕ → Option Barrier → HartState → HartState
asked_by k h barrier x = record x {
  requests = if is_about k barrier then with_hart h x.requests else x.requests;
  restart = restarts_at k barrier || x.restart;
}

-- another hart once hart h took its requests: the barrier of its thread, where it waits in one, waits for that hart no longer
abbrev pub noticed : ℕ → HartState → HartState
noticed h x = record x { waits = option_map (without_hart h) x.waits }

-- a hart that took its requests, whose thread was interrupted where there is what that came to
abbrev pub taken_with : Option Outcome → HartState → HartState
taken_with came x = record x {
  pc = option_map_or (pc_after x.pc) came x.pc;
  requests = 0;
  restart = false;
  reserved = None;
}

-- hart k once hart h took its requests
abbrev pub noticed_unless : Bool → ℕ → HartState → HartState
noticed_unless is_own h x = if is_own then x else noticed h x

abbrev pub taken_or_noticed : Bool → ℕ → Option Outcome → HartState → HartState
taken_or_noticed is_own h came x = if is_own then taken_with came x else noticed h x

-- how the run has ended after it
abbrev pub ended_by : Option Outcome → Option End → Option End
ended_by came ended = option_or (option_and_then killed_by came) ended

-- what the interruption of the thread on a hart that takes its requests comes to: none where no request asks for it, or where no
-- thread runs
abbrev pub restart_here : Here → Option Outcome
restart_here here = if here.restart then option_map (interruption_here here) (runs here) else None

-- the thread was interrupted so, if it was: the pages and the other harts have what was written
pub record IsRestarted (here : Here) (came : Option Outcome) (m m' : Parts) : Type 0 where
  pub comes : came ≡ restart_here here
  pub pages : IsWritten (done_take here).entered m.pages m'.pages
  pub harts : (k : ℕ) → slice_get m'.harts.items k
      ≡ option_map (lost_unless (k == here.hart) (done_take here).entered) (slice_get m.harts.items k)

-- a hart whose thread goes on after its barrier
abbrev pub gone_on : HartState → HartState
gone_on x = record x { file = with_register x.file 10 0; waits = None; reserved = None }
