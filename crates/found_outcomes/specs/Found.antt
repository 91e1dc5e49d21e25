-- What the outcomes that were found say: each is that of a run, and no two are alike (own).
use Rattle.std.specs.Prelude.{ℕ, ◌≡◌, ◌==◌, Bool, true, false, List, Some, Contains}
use Rattle.std.specs.List.{AllPairs}
use Rattle.mach_types.specs.declared.events.Entry.{Entry}
use Rattle.mach_types.specs.declared.limits.End.{End}
use Rattle.mach_types.specs.declared.limits.End.TheVariants.{Exit, Killed, Stuck, Limit, Unended}
use Rattle.block_model.specs.Plain.{plain_after, plain_over}
use Rattle.block_model.specs.Setting.{Setting}
use Rattle.prompt_runs.specs.Prompt.{IsSpokenOf}
use Rattle.search_reductions.specs.declared.signals.Signals.{Signals}
use Rattle.same_places.specs.Closed.{IsRunEnding}
use Rattle.found_outcomes.specs.declared.findings.OutcomeFound.{OutcomeFound}

-- one of the outcomes has this end and this console
pub record HasBeenFound (os : List OutcomeFound) (end : End) (console : List ℕ) : Type 0 where
  pub outcome : OutcomeFound
  pub among : Contains os outcome
  pub end_is : outcome.end ≡ end
  pub console_is : outcome.console ≡ console

-- where the run of a log is over, one of the outcomes has its end and its console
abbrev pub IsEndFound : Setting → List OutcomeFound → List Entry → Type 0
IsEndFound s os log = (end : End) → plain_over (plain_after s log) ≡ Some end → HasBeenFound os end (plain_after s log).kernel.console

-- the log of the outcome is a block run that is spoken of and is over, with the outcome's end and console
abbrev pub IsShown : Setting → Signals → OutcomeFound → Type 0
IsShown s signals o = IsRunEnding s o.end o.console o.log.items × IsSpokenOf signals s o.log.items

-- not both the end and the console of two outcomes are the same
abbrev pub IsOther : OutcomeFound → OutcomeFound → Type 0
IsOther o p = o.end ≡ p.end → o.console ≡ p.console → ⊥

-- no two of the outcomes are alike
abbrev pub AreDifferent : List OutcomeFound → Type 0
AreDifferent os = AllPairs IsOther os

-- whether two ends are one
abbrev pub same_end : End → End → Bool
same_end (Exit a) (Exit b) = a == b
same_end (Killed a) (Killed b) = a == b
same_end Stuck Stuck = true
same_end Limit Limit = true
same_end Unended Unended = true
same_end _ _ = false
