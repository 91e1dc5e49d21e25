-- Which of the places that a search visited are hopeless, and what it says of all runs (own).
use Rattle.std.specs.Prelude.{ℕ, ◌≡◌, ◌≢◌, ◌<◌, not, Bool, true, false, List, length, Contains, count_by, slice_index_or}
use Rattle.mach_types.specs.declared.events.Entry.{Entry}
use Rattle.block_model.specs.Setting.{Setting}
use Rattle.prompt_runs.specs.Prompt.{IsSpokenOf}
use Rattle.search_reductions.specs.declared.signals.Signals.{Signals}
use Rattle.same_places.specs.FreeRuns.{IsFreeRun}
use Rattle.settled_places.specs.Edges.{log_by_number}
use Rattle.settled_places.specs.Endings.{CanEnd, IsHopeless}

-- of each log whether its run can still end
pub record IsToldOfEach (s : Setting) (signals : Signals) (logs : List (List Entry)) (can : List Bool) : Type 0 where
  pub each : length can ≡ length logs
  pub can_end : (k : ℕ) → k < length logs → slice_index_or can k false ≡ true
      → CanEnd s signals (log_by_number logs k)
  pub hopeless : (k : ℕ) → k < length logs → slice_index_or can k true ≡ false
      → IsHopeless s signals (log_by_number logs k)

-- so many of the logs are hopeless
pub record AreSoManyHopeless (s : Setting) (signals : Signals) (logs : List (List Entry)) (n : ℕ) : Type 0 where
  pub can : List Bool
  pub told : IsToldOfEach s signals logs can
  pub counted : count_by not can ≡ n

-- so many of the logs are hopeless, and where there is one, this one is such. Where there is none, every run
-- can still end, however far it is
pub record AreHopeless (s : Setting) (signals : Signals) (logs : List (List Entry)) (n : ℕ) (nearest : List Entry) : Type 0 where
  pub counted : AreSoManyHopeless s signals logs n
  pub nearest_is : n ≢ 0 → IsHopeless s signals nearest
  pub hopes : n ≡ 0 → (log : List Entry) → IsFreeRun s log → IsSpokenOf signals s log → CanEnd s signals log
