-- an exploration on its way, of which not enough outcomes are found yet; each batch leaves fewer runs
use Rattle.std.proofs.Common.{◌≡◌, ◌≤◌, ◌-◌, All, false}
use Rattle.block_model.specs.Setting.{setting_of}
use Rattle.explored_runs.specs.Accounts.{account_of, has_enough}
use Rattle.explored_runs.specs.Explored.{IsExploring}
use Rattle.explored_runs.specs.Jobs.{IsJob}
use Rattle.explored_runs.proofs.sharing.tell_round.Given as goal

abbrev pub invariant-batches : goal.invariant-batches
invariant-batches g l = record {
  exploring : IsExploring (setting_of l.task.image.now l.task.limits) l.task.exploration.now (account_of l.explored);
  wanted : has_enough l.task.exploration.now.until (account_of l.explored) ≡ false;
  jobs : All (IsJob (setting_of l.task.image.now l.task.limits) l.task.exploration.now) l.jobs;
  more : l.initial.explored.runs ≤ l.explored.runs;
}

abbrev pub decreases-batches : goal.decreases-batches
decreases-batches g l = l.task.exploration.now.runs - l.explored.runs
