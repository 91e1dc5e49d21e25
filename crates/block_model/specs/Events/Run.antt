-- run: a ready thread that may run on the hart begins to run there, where it is idle. The hart's reservation ends. The thread is
-- interrupted first (rseq(2)), so it never goes on inside a sequence that it left; then its area gets the words of its processor.
use Rattle.std.specs.Prelude.{ℕ, ◌++◌, Bool, true, false, if◌then◌else◌, Option, Some, None}
use Rattle.mach_types.specs.declared.events.Why.{Why}
use Rattle.mach_types.specs.declared.events.Why.TheVariants.{Busy, NotReady, NotAllowed}
use Rattle.mach_types.specs.Kernel.Threads.{is_ready}
use Rattle.mach_types.specs.Kernel.Scheduling.{has_hart, affinity_of}
use Rattle.mach_types.specs.declared.limits.End.TheVariants.{Killed}
use Rattle.mach_types.specs.declared.sequences.Outcome.{Outcome}
use Rattle.mach_types.specs.declared.sequences.Outcome.TheVariants as comes_to
use Rattle.mach_types.specs.declared.signals.TheConstants.{SIGSEGV}
use Rattle.mach_types.specs.Kernel.Areas.{words_on, writes_of}
use Rattle.block_model.specs.Here.{Here, Done, nothing, runs}
use Rattle.block_model.specs.Ids.{next_id}
use Rattle.block_model.specs.Kernel.{ran}
use Rattle.block_model.specs.Sequences.{area_here, can_write_words, files_interrupted, interruption_here, words_to}

abbrev pub refusal_run_by : Here → ℕ → Option ℕ → Option Why
refusal_run_by here t (Some u) = Some Busy
refusal_run_by here t None =
    if is_ready t here.kernel.threads
    then (if has_hart (affinity_of t here.kernel.scheduling) here.hart then None else Some NotAllowed)
    else Some NotReady

abbrev pub refusal_run : Here → ℕ → Option Why
refusal_run here t = refusal_run_by here t (runs here)

-- whether the process lives on after an interruption of thread t that came to this: it found nothing bad, and the words of the
-- thread's area, where it has one, can be written
abbrev pub lives_on : Here → ℕ → Outcome → Bool
lives_on here t comes_to.Nothing = can_write_words here (area_here here t)
lives_on here t comes_to.Cleared = can_write_words here (area_here here t)
lives_on here t (comes_to.Aborted at) = can_write_words here (area_here here t)
lives_on here t (comes_to.Killed why) = false

-- the thread is interrupted, which came to this: its pointer is cleared and its pc set as that says. The hart has no reservation
-- after it, and its count of instructions begins anew
abbrev pub only_interrupted : Here → ℕ → Outcome → Done
only_interrupted here t o = record (nothing here) {
  files = files_interrupted here t o;
  entered = writes_of (area_here here t) o;
  reserved = None;
  started = true;
  interrupted = Some o;
}

-- then it runs, and its area has the words of the hart and of the id that it holds
abbrev pub done_running : Here → ℕ → Outcome → Done
done_running here t o = record (only_interrupted here t o) {
  entered = writes_of (area_here here t) o ++ words_to here (area_here here t) (words_on here.hart (next_id here.kernel.ids));
  kernel = ran t here.hart here.kernel;
}

-- or the process is killed, and the thread doesn't begin to run
abbrev pub done_killed : Here → ℕ → Outcome → Done
done_killed here t o = record (only_interrupted here t o) { ended = Some (Killed SIGSEGV) }

abbrev pub done_run_by : Here → ℕ → Outcome → Done
done_run_by here t o = if lives_on here t o then done_running here t o else done_killed here t o

abbrev pub done_run : Here → ℕ → Done
done_run here t = done_run_by here t (interruption_here here t)
