-- an exploration on its way, by a machine of its setting; each run leaves one less
use Rattle.std.proofs.Common.{◌≡◌, ◌-◌}
use Rattle.block_model.specs.Setting.{setting_of}
use Rattle.explored_runs.specs.Accounts.{account_of}
use Rattle.explored_runs.specs.Explored.{IsExploring}
use Rattle.explored_runs.proofs.exploring.explore.Given as goal

abbrev pub invariant-runs : goal.invariant-runs
invariant-runs g l = record {
  exploring : IsExploring (setting_of l.image l.limits) l.exploration (account_of l.explored);
  setting : l.run.machine.setting ≡ setting_of l.image l.limits;
}

abbrev pub decreases-runs : goal.decreases-runs
decreases-runs g l = l.exploration.runs - l.explored.runs
