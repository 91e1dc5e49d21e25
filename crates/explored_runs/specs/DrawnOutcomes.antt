-- Of which drawn run an outcome is told (own): the first that came to it.
use Rattle.std.specs.Prelude.{ℕ, ◌≡◌, ◌<◌, List, length}
use Rattle.mach_types.specs.declared.events.Entry.{Entry}
use Rattle.block_model.specs.Deciding.{end_of, history}
use Rattle.block_model.specs.History.{console}
use Rattle.block_model.specs.Setting.{Setting}
use Rattle.draw_policies.specs.Policies.{policy_for}
use Rattle.drawn_runs.specs.WholeRuns.{IsDrawnRun}
use Rattle.explored_runs.specs.declared.exploration.Exploration.{Exploration}
use Rattle.explored_runs.specs.declared.explored.Found.{Found}
use Rattle.explored_runs.specs.Explorations.{manner_at, seed_at}
use Rattle.explored_runs.specs.Made.{kept}

-- the run of one of the first places, so many, is drawn and comes to this outcome: the seed and the policy that are told are
-- those of its place, its log has so many entries, and its console, where it is kept, and its end are those that are told
pub record IsDrawnOutcome (s : Setting) (x : Exploration) (places : ℕ) (f : Found) : Type 0 where
  pub place : ℕ
  pub among : place < places
  pub log : List Entry
  pub run : IsDrawnRun s (manner_at s x place) log
  pub seed : f.seed ≡ seed_at x.first place
  pub policy : f.policy ≡ policy_for x.policies (seed_at x.first place)
  pub steps : f.steps ≡ length log
  pub console : f.console ≡ kept x.apart (console s (history s log))
  pub end : f.end ≡ end_of s (history s log)
