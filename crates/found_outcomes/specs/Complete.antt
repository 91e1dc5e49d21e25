-- That there is no other outcome (own).
use Rattle.std.specs.Prelude.{ℕ, ◌≡◌, ◌≤◌, List, Some, count_by}
use Rattle.mach_types.specs.Events.{is_preempt}
use Rattle.mach_types.specs.declared.events.Entry.{Entry}
use Rattle.mach_types.specs.declared.limits.End.{End}
use Rattle.block_model.specs.Deciding.{history, over_at}
use Rattle.block_model.specs.History.{console}
use Rattle.block_model.specs.Plain.{plain_after, plain_over}
use Rattle.block_model.specs.Run.{IsBlockRun}
use Rattle.block_model.specs.Setting.{Setting, with_steps}
use Rattle.prompt_runs.specs.Prompt.{IsSpokenOf}
use Rattle.search_reductions.specs.declared.signals.Signals.{Signals}
use Rattle.same_places.specs.FreeRuns.{IsFreeRun}
use Rattle.found_outcomes.specs.Found.{HasBeenFound}
use Rattle.found_outcomes.specs.declared.findings.OutcomeFound.{OutcomeFound}

-- every run that is spoken of and is over ends as one of the outcomes says: each block run under each step
-- limit that a machine may have, and each run that no step limit ends, however long it is
pub record IsComplete (s : Setting) (signals : Signals) (os : List OutcomeFound) : Type 0 where
  pub block_runs : (n : ℕ) (log : List Entry) (e : End) → n ≤ 1000000 → IsBlockRun (with_steps n s) log
      → IsSpokenOf signals s log → over_at (with_steps n s) (history (with_steps n s) log) ≡ Some e
      → HasBeenFound os e (console (with_steps n s) (history (with_steps n s) log))
  pub free_runs : (log : List Entry) (e : End) → IsFreeRun s log → IsSpokenOf signals s log
      → plain_over (plain_after s log) ≡ Some e
      → HasBeenFound os e (plain_after s log).kernel.console

-- how many lines `preempt` a log has
abbrev pub preemptions_of : List Entry → ℕ
preemptions_of log = count_by (λ (e : Entry). is_preempt e.kind) log

-- the same of every such run with so many lines `preempt` at most
pub record IsCompleteWithin (s : Setting) (signals : Signals) (most : ℕ) (os : List OutcomeFound) : Type 0 where
  pub block_runs : (n : ℕ) (log : List Entry) (e : End) → n ≤ 1000000 → IsBlockRun (with_steps n s) log
      → IsSpokenOf signals s log → preemptions_of log ≤ most
      → over_at (with_steps n s) (history (with_steps n s) log) ≡ Some e
      → HasBeenFound os e (console (with_steps n s) (history (with_steps n s) log))
  pub free_runs : (log : List Entry) (e : End) → IsFreeRun s log → IsSpokenOf signals s log
      → preemptions_of log ≤ most → plain_over (plain_after s log) ≡ Some e
      → HasBeenFound os e (plain_after s log).kernel.console
