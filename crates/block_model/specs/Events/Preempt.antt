-- preempt: the thread on the hart leaves it, where it waits in no barrier and no store waits, and becomes the last ready thread. The hart's reservation
-- ends.
use Rattle.std.specs.Prelude.{ℕ, List, [], ◌∷◌, Option, Some, None}
use Rattle.mach_types.specs.declared.events.Why.{Why}
use Rattle.mach_types.specs.declared.events.Why.TheVariants.{Idle, InBarrier, Waiting}
use Rattle.mach_types.specs.declared.user_memory.Store.{Store}
use Rattle.block_model.specs.Here.{Here, Done, nothing, runs, waiting_here}
use Rattle.block_model.specs.Kernel.{left}

abbrev pub unless_waiting : List Store → Option Why
unless_waiting [] = None
unless_waiting (w ∷ ws) = Some Waiting

-- no event comes of a thread that waits in a barrier, but that the barrier returns
abbrev pub unless_in_barrier : Option ℕ → Option Why → Option Why
unless_in_barrier None why = why
unless_in_barrier (Some left) why = Some InBarrier

abbrev pub refusal_preempt_by : Here → Option ℕ → Option Why
refusal_preempt_by here None = Some Idle
refusal_preempt_by here (Some t) = unless_in_barrier here.awaits (unless_waiting (waiting_here here))

abbrev pub refusal_preempt : Here → Option Why
refusal_preempt here = refusal_preempt_by here (runs here)

abbrev pub done_preempt_by : Here → Option ℕ → Done
done_preempt_by here None = nothing here
done_preempt_by here (Some t) = record (nothing here) { reserved = None; kernel = left t here.kernel }

abbrev pub done_preempt : Here → Done
done_preempt here = done_preempt_by here (runs here)
