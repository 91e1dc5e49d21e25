-- What the proofs speak of beside the definitions: a machine on which thread t has another file; what an
-- interruption comes to there; and runs of choices.
use Rattle.std.specs.Prelude.{ℕ, ◌≡◌, ◌≢◌, ◌==◌, false, List, [], ◌∷◌, if◌then◌else◌, Some}
use Rattle.mach_types.specs.Kernel.Areas.{interruption}
use Rattle.mach_types.specs.Kernel.Signals.{action_of, is_handler, next_for}
use Rattle.mach_types.specs.declared.events.Choice.{Choice}
use Rattle.mach_types.specs.declared.events.Choice.TheVariants as asked
use Rattle.mach_types.specs.declared.limits.End.{End}
use Rattle.mach_types.specs.declared.sequences.Outcome.TheVariants as comes_to
use Rattle.mach_types.specs.declared.threads.Saved.{Saved}
use Rattle.block_model.specs.Here.{Here, is_writable, memory, runs, waiting_here}
use Rattle.block_model.specs.Plain.{Plain, plain_over}
use Rattle.block_model.specs.Sequences.{area_here, interruption_here}
use Rattle.block_model.specs.Setting.{Setting}
use Rattle.local_steps.specs.Runs.{AreAlike, MayCome, next_of}

-- A MACHINE ON WHICH ONE THREAD IS AHEAD

-- files with another one of thread t, and the machine with it
abbrev pub with_file : ℕ → Saved → (ℕ → Saved) → ℕ → Saved
with_file t g files u = if t == u then g else files u

abbrev pub moved : ℕ → Saved → Plain → Plain
moved t g m = record m { file = with_file t g m.file }

-- the second machine is the first one, but thread t is ahead there, with this file
abbrev pub IsAhead : ℕ → Saved → Plain → Plain → Type 0
IsAhead t g m n = AreAlike n (moved t g m)

-- INTERRUPTIONS

-- an event of the hart interrupts thread t: it begins to run there; or it runs there, no store waits, and
-- requests are taken or a signal is delivered
abbrev pub MayInterrupt : Choice → Here → ℕ → Type 0
MayInterrupt (asked.Run u) here t = u.0 ≡ t
MayInterrupt asked.Take here t = (runs here ≡ Some t) × (waiting_here here ≡ [])
MayInterrupt asked.Signal here t = (runs here ≡ Some t) × (waiting_here here ≡ [])
MayInterrupt asked.Exec here t = ⊥
MayInterrupt asked.Drain here t = ⊥
MayInterrupt asked.Done here t = ⊥
MayInterrupt asked.Preempt here t = ⊥

-- an interruption of thread t comes to the same with this file, and doesn't restart a sequence
pub record IsOutside (here : Here) (t : ℕ) (g : Saved) : Type 0 where
  pub same : interruption (memory here) (is_writable here) (area_here here t) g.pc ≡ interruption_here here t
  pub kept : (at : ℕ) → interruption_here here t ≢ comes_to.Aborted at

-- where an event interrupts thread t, that is outside its sequence with the one file and the other; and where
-- a signal is delivered to it, that has no handler
pub record IsCalm (c : Choice) (here : Here) (t : ℕ) (g : Saved) : Type 0 where
  pub outside : MayInterrupt c here t → IsOutside here t g
  pub unhandled : c ≡ asked.Signal → runs here ≡ Some t → (signal : ℕ)
      → next_for t here.kernel.signals ≡ Some signal → is_handler (action_of signal here.kernel.signals) ≡ false

-- RUNS OF CHOICES

-- these choices may come one after the other
abbrev pub Goes : Setting → Plain → List (ℕ × Choice) → Type 0
Goes s m [] = Unit {0}
Goes s m (a ∷ log) = MayCome s m a × Goes s (next_of s m a) log

-- and then the run has ended so, with this console
abbrev pub EndsSo : Setting → Plain → List (ℕ × Choice) → End → List ℕ → Type 0
EndsSo s m [] e console = (plain_over m ≡ Some e) × (m.kernel.console ≡ console)
EndsSo s m (a ∷ log) e console = MayCome s m a × EndsSo s (next_of s m a) log e console

-- where these choices lead
abbrev pub gone : Setting → Plain → List (ℕ × Choice) → Plain
gone s m [] = m
gone s m (a ∷ log) = gone s (next_of s m a) log
