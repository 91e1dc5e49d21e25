-- What a search comes to (own).
use Rattle.std.specs.Prelude.{ℕ, ◌≡◌, ◌≢◌, ◌≤◌, ◌<◌, List, length, Option, None, Some, All, Contains}
use Rattle.mach_types.specs.declared.events.Entry.{Entry}
use Rattle.block_model.specs.Plain.{plain_after, plain_over}
use Rattle.block_model.specs.Run.{IsBlockRun}
use Rattle.block_model.specs.Setting.{Setting}
use Rattle.prompt_runs.specs.Prompt.{IsSpokenOf}
use Rattle.search_reductions.specs.declared.signals.Signals.{Signals}
use Rattle.found_outcomes.specs.Complete.{IsComplete, IsCompleteWithin, preemptions_of}
use Rattle.found_outcomes.specs.Endless.{IsEndless}
use Rattle.found_outcomes.specs.Found.{AreDifferent, IsEndFound, IsShown}
use Rattle.found_outcomes.specs.Hopeless.{AreHopeless}
use Rattle.found_outcomes.specs.declared.findings.Closing.TheVariants.{Complete, Deep, Memory, Places, Within}
use Rattle.found_outcomes.specs.declared.findings.Findings.{Findings}
use Rattle.found_outcomes.specs.declared.findings.OutcomeFound.{OutcomeFound}

-- the log goes on, and is as long as the step limit
pub record IsAtLimit (s : Setting) (log : List Entry) : Type 0 where
  pub goes : plain_over (plain_after s log) ≡ None
  pub all_steps : length log ≡ s.limits.steps

-- a log that was visited has as many entries
pub record IsDepth (logs : List (List Entry)) (n : ℕ) : Type 0 where
  pub log : List Entry
  pub visited : Contains logs log
  pub entries : length log ≡ n

-- the logs that were visited are block runs that are spoken of, one for each place that is counted, none
-- longer than the deepest, and the logs of the outcomes are among them
pub record HasVisited (s : Setting) (signals : Signals) (found : Findings) (logs : List (List Entry))
    : Type 0 where
  pub runs : All (IsBlockRun s) logs
  pub spoken : All (IsSpokenOf signals s) logs
  pub counted : length logs ≡ found.places
  pub within : All (λ log. length log ≤ found.deepest) logs
  pub deepest : IsDepth logs found.deepest
  pub outcomes : All (λ (o : OutcomeFound). Contains logs o.log.items) found.outcomes.items

-- of the runs that are spoken of: each outcome is that of one, and no two are alike; at `Complete` there is no
-- other. So many logs were visited, as many as were allowed at `Places`; and at `Deep` one of them goes on at the
-- step limit. Unless memory was short, each of them that is over ends as one of the outcomes says. At `Complete` it
-- is known which of them are hopeless; and what is given as the nearest of these is one of the logs in any case.
-- Where so many preemptions are allowed, none of the logs has more, and at `Within` there is no other outcome of a
-- run with no more; it is a number of one byte
pub record IsSearchOf (s : Setting) (signals : Signals) (most : ℕ) (preemptions : Option ℕ) (found : Findings)
    : Type 0 where
  pub shown : All (IsShown s signals) found.outcomes.items
  pub different : AreDifferent found.outcomes.items
  pub complete : found.closing ≡ Complete → IsComplete s signals found.outcomes.items
  pub within : (p : ℕ) → found.closing ≡ Within p
      → (preemptions ≡ Some p) × (p < 256) × IsCompleteWithin s signals p found.outcomes.items
  pub logs : List (List Entry)
  pub few : (p : ℕ) → preemptions ≡ Some p → All (λ log. preemptions_of log ≤ p) logs
  pub visited : HasVisited s signals found logs
  pub noted : found.closing ≢ Memory → All (IsEndFound s found.outcomes.items) logs
  pub allowed : found.places ≤ most
  pub all_places : found.closing ≡ Places → found.places ≡ most
  pub endless : found.closing ≡ Complete → IsEndless s signals found.endless
  pub nearest : Contains logs found.hopeless.nearest.items
  pub hopeless : found.closing ≡ Complete
      → AreHopeless s signals logs found.hopeless.number found.hopeless.nearest.items
  pub at_limit : found.closing ≡ Deep → (log : List Entry) × Contains logs log × IsAtLimit s log
