-- What one run of an exploration came to (own).
use Rattle.std.specs.Prelude.{ℕ, ◌≡◌, List, [], length}
use Rattle.mach_types.specs.declared.events.Entry.{Entry}
use Rattle.block_model.specs.Deciding.{end_of, history}
use Rattle.block_model.specs.History.{console}
use Rattle.block_model.specs.Setting.{Setting}
use Rattle.drawn_runs.specs.declared.manner.Manner.{Manner}
use Rattle.drawn_runs.specs.WholeRuns.{IsDrawnRun}
use Rattle.draw_policies.specs.declared.outcome_keys.OutcomeKey.{OutcomeKey}
use Rattle.draw_policies.specs.declared.outcome_keys.OutcomeKey.TheVariants.{ByText, ByEnd}
use Rattle.explored_runs.specs.declared.exploration.Exploration.{Exploration}
use Rattle.explored_runs.specs.declared.made.Made.{Made}
use Rattle.explored_runs.specs.Explorations.{manner_at}
use Rattle.explored_runs.specs.Tallies.{tally_of}

-- the console of a run, where outcomes are told apart by it; else nothing
abbrev pub kept : OutcomeKey → List ℕ → List ℕ
kept ByText bytes = bytes
kept ByEnd bytes = []

-- what a run in this manner came to, where this is its log
abbrev pub made_by : OutcomeKey → Manner → Setting → List Entry → Made
made_by apart manner s log = record {
  seed = manner.seed;
  policy = manner.policy;
  steps = length log;
  console = kept apart (console s (history s log));
  end = end_of s (history s log);
  tally = tally_of s log;
}

-- a run was drawn as that of its place, and this is what it came to
pub record IsMadeAt (s : Setting) (x : Exploration) (place : ℕ) (m : Made) : Type 0 where
  pub log : List Entry
  pub run : IsDrawnRun s (manner_at s x place) log
  pub made : m ≡ made_by x.apart (manner_at s x place) s log
