-- an exploration on its way, whose jobs are of its setting; each round leaves fewer runs
use Rattle.std.proofs.Common.{◌-◌, ◌<◌, ◌≤◌, All, length}
use Rattle.block_model.specs.Setting.{setting_of}
use Rattle.explored_runs.specs.Accounts.{account_of}
use Rattle.explored_runs.specs.Explored.{IsExploring}
use Rattle.explored_runs.specs.Jobs.{IsJob}
use Rattle.explored_runs.proofs.sharing.explore_on.Given as goal

abbrev pub invariant-rounds : goal.invariant-rounds
invariant-rounds g l = record {
  exploring : IsExploring (setting_of l.image l.fn.limits) l.exploration (account_of l.explored);
  jobs : All (IsJob (setting_of l.image l.fn.limits) l.exploration) l.all.items;
  some : 0 < length l.all.items;
  few : length l.all.items ≤ 255;
}

abbrev pub decreases-rounds : goal.decreases-rounds
decreases-rounds g l = l.exploration.runs - l.explored.runs
