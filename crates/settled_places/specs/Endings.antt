-- Whether a run that no step limit ends can still end, and how many instructions runs execute (own): of the
-- runs that are spoken of. A run ends by an exit, by a signal, or stuck: then a thread is live and none runs
-- or is ready. Instructions are counted, and not events: a thread can be preempted and run again as often as
-- you like.
use Rattle.std.specs.Prelude.{ℕ, ◌≡◌, ◌≤◌, List, ◌++◌, Some}
use Rattle.mach_types.specs.declared.events.Entry.{Entry}
use Rattle.mach_types.specs.declared.limits.End.{End}
use Rattle.block_model.specs.Plain.{plain_after, plain_over}
use Rattle.block_model.specs.Setting.{Setting}
use Rattle.local_steps.specs.Runs.{choices, instructions_by, total}
use Rattle.prompt_runs.specs.Prompt.{IsSpokenOf}
use Rattle.search_reductions.specs.declared.signals.Signals.{Signals}
use Rattle.same_places.specs.FreeRuns.{IsFreeRun}

-- the run of the log can go on, as one that is spoken of, so that it is over
pub record CanEnd (s : Setting) (signals : Signals) (log : List Entry) : Type 0 where
  pub more : List Entry
  pub run : IsFreeRun s (log ++ more)
  pub spoken : IsSpokenOf signals s (log ++ more)
  pub end : End
  pub over : plain_over (plain_after s (log ++ more)) ≡ Some end

-- however it goes on, it isn't over
abbrev pub IsHopeless : Setting → Signals → List Entry → Type 0
IsHopeless s signals log = CanEnd s signals log → ⊥

-- how many instructions a run executes
abbrev pub executed : List Entry → ℕ
executed log = total instructions_by (choices log)

-- for each number there is a run that executes so many instructions at least
abbrev pub HasLongWork : Setting → Signals → Type 0
HasLongWork s signals =
    (n : ℕ) → (log : List Entry) × IsFreeRun s log × IsSpokenOf signals s log × (n ≤ executed log)

-- no run executes more instructions than some number
pub record IsWorkBounded (s : Setting) (signals : Signals) : Type 0 where
  pub most : ℕ
  pub each : (log : List Entry) → IsFreeRun s log → IsSpokenOf signals s log → executed log ≤ most
