-- Runs that go on by settling steps (own).
use Rattle.std.specs.Prelude.{ℕ, ◌≡◌, ◌<◌, ◌++◌, Bool, false, List}
use Rattle.mach_types.specs.Kernel.Scheduling.{has_hart}
use Rattle.mach_types.specs.declared.events.Entry.{Entry}
use Rattle.block_model.specs.Run.{IsBlockRun}
use Rattle.block_model.specs.Setting.{Setting}
use Rattle.process.specs.declared.parts.Parts.{Parts}
use Rattle.same_places.specs.Replayed.{StandAfter}
use Rattle.settled_places.specs.Settling.{AreSettlingSteps}
use Rattle.prompt_runs.specs.Owed.{owed_after}
use Rattle.prompt_runs.specs.Prompt.{IsSpokenOf}
use Rattle.search_reductions.specs.declared.signals.Signals.{Signals}

-- how a search goes: of which runs it speaks, and whether all threads settle, or none
pub record Ways : Type 0 where
  pub signals : Signals
  pub settle : Bool

abbrev pub all_or_none : Ways → ℕ → Bool
all_or_none ways t = ways.settle

-- the set says which harts owe their thread a signal after the log
abbrev pub IsOwedAfter : Setting → Signals → List Entry → ℕ → Type 0
IsOwedAfter s signals log set =
    (h : ℕ) → h < s.limits.harts → has_hart set h ≡ owed_after signals s log h

-- no byte counts as private to a thread
abbrev pub none_private : ℕ → ℕ → Bool
none_private t b = false

-- the parts stand at the end of a run that is spoken of, which is this log with these entries, and after which
-- the harts of this set owe their thread a signal
pub record IsStandingAt (s : Setting) (signals : Signals) (log entries : List Entry) (owed : ℕ) (m : Parts)
    : Type 0 where
  pub run : IsBlockRun s (log ++ entries)
  pub spoken : IsSpokenOf signals s (log ++ entries)
  pub set : IsOwedAfter s signals (log ++ entries) owed
  pub stands : StandAfter s (log ++ entries) m

-- the entries are some first ones and, after these, those of settling steps
pub record HasSettled (s : Setting) (ways : Ways) (log first entries : List Entry) : Type 0 where
  pub more : List Entry
  pub entries_are : entries ≡ first ++ more
  pub steps : AreSettlingSteps s ways.signals (all_or_none ways) none_private (log ++ first) more

-- there may be more settling steps than before, whatever entries were the first
abbrev pub HasMore : Setting → Ways → List Entry → List Entry → List Entry → Type 0
HasMore s ways log before entries =
    (first : List Entry) → HasSettled s ways log first before → HasSettled s ways log first entries
