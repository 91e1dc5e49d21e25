-- A search that makes some reductions, or none (own).
use Rattle.std.specs.Prelude.{ℕ, Option, ◌≡◌, ◌⊎◌, ◌++◌, false, List, [], ◌∷◌, All, Contains}
use Rattle.mach_types.specs.declared.events.Entry.{Entry}
use Rattle.block_model.specs.Setting.{Setting}
use Rattle.search_reductions.specs.declared.signals.Signals.{Signals}
use Rattle.settled_places.specs.SettledSearch.{IsSettledSearch}
use Rattle.search_reductions.specs.declared.reductions.Reductions.{Reductions}
use Rattle.found_outcomes.specs.Search.{IsSearchOf}
use Rattle.found_outcomes.specs.declared.findings.Closing.TheVariants.{Complete}
use Rattle.found_outcomes.specs.declared.findings.Findings.{Findings}

-- the log is one of these with one more entry
pub record IsOneMore (logs : List (List Entry)) (log : List Entry) : Type 0 where
  pub before : List Entry
  pub entry : Entry
  pub among : Contains logs before
  pub all : log ≡ before ++ entry ∷ []

-- one event leads from another of these logs to the log, or it is the start
abbrev pub IsNextOf : List (List Entry) → List Entry → Type 0
IsNextOf logs log = (log ≡ []) ⊎ IsOneMore logs log

-- a search that visits as many places at most, and makes these reductions at most. Where it makes no local
-- step at once, each event of each thread leads to a place of its own; and at `Complete` each choice that comes
-- in time was tried at each place, and its event leads to a place that was visited
pub record IsSearchBy (s : Setting) (signals : Signals) (reductions : Reductions) (most : ℕ)
    (preemptions : Option ℕ) (found : Findings) : Type 0 where
  pub search : IsSearchOf s signals most preemptions found
  pub each_event : reductions.local_steps ≡ false → All (IsNextOf search.logs) search.logs
  pub all_places : reductions.local_steps ≡ false → found.closing ≡ Complete
      → IsSettledSearch s signals (λ t. false) (λ t b. false) search.logs
