-- take: a hart takes all requests of barriers that are pending there, where no store of it waits, so that what it stored before is in
-- memory (membarrier(2)). Where one of them asks for a restart, the thread that runs there is interrupted (rseq(2);
-- MEMBARRIER_CMD_PRIVATE_EXPEDITED_RSEQ). The hart's reservation ends.
use Rattle.std.specs.Prelude.{ℕ, ◌==◌, Bool, true, false, if◌then◌else◌, Option, Some, None}
use Rattle.mach_types.specs.declared.events.Why.{Why}
use Rattle.mach_types.specs.declared.events.Why.TheVariants.{NoRequest}
use Rattle.mach_types.specs.declared.limits.End.{End}
use Rattle.mach_types.specs.declared.limits.End.TheVariants.{Killed}
use Rattle.mach_types.specs.declared.sequences.Outcome.{Outcome}
use Rattle.mach_types.specs.declared.sequences.Outcome.TheVariants as comes_to
use Rattle.mach_types.specs.declared.signals.TheConstants.{SIGSEGV}
use Rattle.mach_types.specs.Kernel.Areas.{writes_of}
use Rattle.block_model.specs.Here.{Here, Done, nothing, runs, waiting_here}
use Rattle.block_model.specs.Sequences.{area_here, files_interrupted, interruption_here}
use Rattle.block_model.specs.Events.Preempt.{unless_waiting}

-- the condition that fails: a request is pending at the hart, and no store of it waits
abbrev pub refusal_take : Here → Option Why
refusal_take here = if here.requests == 0 then Some NoRequest else unless_waiting (waiting_here here)

-- the requests are taken
abbrev pub only_took : Here → Done
only_took here = record (nothing here) { reserved = None; took = true }

-- how an interruption that came to this ends the process
abbrev pub killed_by : Outcome → Option End
killed_by comes_to.Nothing = None
killed_by comes_to.Cleared = None
killed_by (comes_to.Aborted at) = None
killed_by (comes_to.Killed why) = Some (Killed SIGSEGV)

-- and thread t is interrupted, which came to this: its pointer is cleared and its pc set as that says, or the process is killed
abbrev pub took_and_interrupted : Here → ℕ → Outcome → Done
took_and_interrupted here t o = record (only_took here) {
  files = files_interrupted here t o;
  entered = writes_of (area_here here t) o;
  interrupted = Some o;
  ended = killed_by o;
}

abbrev pub done_take_by : Here → Bool → Option ℕ → Done
done_take_by here false running = only_took here
done_take_by here true None = only_took here
done_take_by here true (Some t) = took_and_interrupted here t (interruption_here here t)

abbrev pub done_take : Here → Done
done_take here = done_take_by here here.restart (runs here)
