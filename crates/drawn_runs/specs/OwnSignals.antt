-- Signals that a hart owes its thread (own, as Linux: signal(7)): the kernel delivers a signal before it goes back to the thread, so one
-- that a thread sends to itself or unmasks is delivered before the call returns (POSIX raise, kill, pthread_sigmask), and that of a fault
-- before any further instruction.
use Rattle.std.specs.Prelude.{ℕ, ◌&&◌, Bool, false, not, [], ◌∷◌, length, if◌then◌else◌, nat_lt}
use Rattle.mach_types.specs.Events.{nature_of}
use Rattle.block_model.specs.History.{History, is_of_hart}
use Rattle.block_model.specs.Setting.{Setting}
use Rattle.prompt_runs.specs.Owed.{is_back_by}
use Rattle.drawn_runs.specs.DrawnRuns.{scene_at}
use Rattle.drawn_runs.specs.declared.manner.Manner.{Manner}

-- whether hart h owes its thread a signal: one can be delivered, and could ever since the hart is on its way back from its kernel. What
-- a script made counts for nothing
abbrev pub owes : Setting → Manner → ℕ → History → Bool
owes s m h [] = false
owes s m h (e ∷ before) =
    not (nat_lt (length before) m.scripted)
    && ((scene_at s (e ∷ before)).sight h).deliverable
    && (if is_of_hart h e then is_back_by (nature_of e.entry.kind).maker ((scene_at s before).traps h) (owes s m h before)
    else owes s m h before)
