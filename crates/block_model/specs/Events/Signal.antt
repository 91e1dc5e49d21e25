-- signal: the lowest of the pending signals that the thread on the hart doesn't mask is delivered to it, where no store of the hart
-- waits (signal(7); that the lowest comes first is own). The hart's reservation ends. The thread is interrupted first (rseq(2)), so
-- that no handler returns into a sequence; then the process is killed by the signal where its action is no handler, and else the
-- handler is entered (sigaction(2)). That the check of a sequence comes before a default action too is own.
use Rattle.std.specs.Prelude.{ℕ, ◌++◌, not, [], ◌∷◌, if◌then◌else◌, Option, Some, None}
use Rattle.mach_types.specs.declared.events.Why.{Why}
use Rattle.mach_types.specs.declared.events.Why.TheVariants.{Idle, NoSignal}
use Rattle.mach_types.specs.declared.limits.End.TheVariants.{Killed}
use Rattle.mach_types.specs.declared.sequences.Outcome.{Outcome}
use Rattle.mach_types.specs.declared.sequences.Outcome.TheVariants as comes_to
use Rattle.mach_types.specs.declared.signals.TheConstants.{SIGSEGV}
use Rattle.mach_types.specs.declared.threads.Saved.{Saved}
use Rattle.mach_types.specs.Kernel.Areas.{pc_after, writes_of}
use Rattle.mach_types.specs.Kernel.SignalFrames.{can_write_frame, entered, frame_writes, handler_file}
use Rattle.mach_types.specs.Kernel.Signals.{Signalling, action_of, dropped, fault_of, is_handler, is_ignored, mask_of, next_for, without_pending}
use Rattle.block_model.specs.Here.{Here, Done, is_writable, nothing, runs, waiting_here}
use Rattle.block_model.specs.Kernel.{signalled}
use Rattle.block_model.specs.Sequences.{area_here, files_interrupted, interruption_here}
use Rattle.block_model.specs.Events.Preempt.{unless_in_barrier, unless_waiting}

-- the condition that fails: a thread runs, it waits in no barrier, a signal can be delivered to it, and no store of the hart waits
abbrev pub refusal_delivery : Here → Option ℕ → Option Why
refusal_delivery here None = Some NoSignal
refusal_delivery here (Some signal) = unless_waiting (waiting_here here)

abbrev pub refusal_signal_by : Here → Option ℕ → Option Why
refusal_signal_by here None = Some Idle
refusal_signal_by here (Some t) = unless_in_barrier here.awaits (refusal_delivery here (next_for t here.kernel.signals))

abbrev pub refusal_signal : Here → Option Why
refusal_signal here = refusal_signal_by here (runs here)

-- the file of thread t once it was interrupted, which came to this
abbrev pub file_interrupted : Here → ℕ → Outcome → Saved
file_interrupted here t o = record (here.file t) { pc = pc_after (here.file t).pc o }

-- the signal by which the process is killed at the delivery of one to thread t, whose interruption came to this: SIGSEGV where that
-- found something bad; the signal itself where its action is no handler; SIGSEGV where the handler's frame can't be written. None
-- where the handler is entered
abbrev pub kills_unhandled : Here → ℕ → ℕ → Outcome → Option ℕ
kills_unhandled here t signal o =
    let a = action_of signal here.kernel.signals in
    if not (is_handler a) then Some signal
    else if not (can_write_frame (is_writable here) a (file_interrupted here t o)) then Some SIGSEGV
    else None

abbrev pub kills : Here → ℕ → ℕ → Outcome → Option ℕ
kills here t signal comes_to.Nothing = kills_unhandled here t signal comes_to.Nothing
kills here t signal comes_to.Cleared = kills_unhandled here t signal comes_to.Cleared
kills here t signal (comes_to.Aborted at) = kills_unhandled here t signal (comes_to.Aborted at)
kills here t signal (comes_to.Killed why) = Some SIGSEGV

-- the signal isn't pending any more, and the thread is interrupted: its pointer is cleared and its pc set as that says
abbrev pub signals_taken : Here → ℕ → ℕ → Signalling
signals_taken here t signal = without_pending t signal here.kernel.signals

abbrev pub only_taken : Here → ℕ → ℕ → Outcome → Done
only_taken here t signal o = record (nothing here) {
  files = files_interrupted here t o;
  entered = writes_of (area_here here t) o;
  reserved = None;
  interrupted = Some o;
  kernel = signalled (signals_taken here t signal) here.kernel;
}

-- the signals once the handler of a signal was entered: an action that SA_RESETHAND makes the default drops its signal where that
-- default is to ignore it
abbrev pub dropped_if_ignored : ℕ → Signalling → Signalling
dropped_if_ignored signal g = if is_ignored signal (action_of signal g) then dropped signal g else g

abbrev pub signals_handled : ℕ → ℕ → Signalling → Signalling
signals_handled t signal g = dropped_if_ignored signal (entered t signal g)

-- then the handler is entered: its frame has the file of the interrupted thread, and the mask that the thread had; with SA_SIGINFO
-- it has also what the signal says
abbrev pub handled : Here → ℕ → ℕ → Outcome → Done
handled here t signal o =
    let g = here.kernel.signals in
    let interrupted = file_interrupted here t o in
    record (only_taken here t signal o) {
      files = (t, handler_file signal (action_of signal g) interrupted) ∷ [];
      entered = writes_of (area_here here t) o ++ frame_writes signal (action_of signal g) (fault_of t signal g) interrupted (mask_of t g);
      kernel = signalled (signals_handled t signal (signals_taken here t signal)) here.kernel;
    }

-- or the process is killed
abbrev pub handled_unless_killed : Here → ℕ → ℕ → Outcome → Option ℕ → Done
handled_unless_killed here t signal o None = handled here t signal o
handled_unless_killed here t signal o (Some killer) = record (only_taken here t signal o) { ended = Some (Killed killer) }

abbrev pub done_delivery : Here → ℕ → ℕ → Outcome → Done
done_delivery here t signal o = handled_unless_killed here t signal o (kills here t signal o)

abbrev pub done_next : Here → ℕ → Option ℕ → Done
done_next here t None = nothing here
done_next here t (Some signal) = done_delivery here t signal (interruption_here here t)

abbrev pub done_signal_by : Here → Option ℕ → Done
done_signal_by here None = nothing here
done_signal_by here (Some t) = done_next here t (next_for t here.kernel.signals)

abbrev pub done_signal : Here → Done
done_signal here = done_signal_by here (runs here)
