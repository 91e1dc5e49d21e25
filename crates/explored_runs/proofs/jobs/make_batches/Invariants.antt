-- the machine is one of the setting, and the batches are made so far
use Rattle.std.proofs.Common.{◌≡◌, All}
use Rattle.block_model.specs.Setting.{setting_of}
use Rattle.explored_runs.specs.Jobs.{IsBatch}
use Rattle.explored_runs.proofs.jobs.make_batches.Given as goal

abbrev pub invariant-loop : goal.invariant-loop
invariant-loop l = record {
  setting : l.run.machine.setting ≡ setting_of l.task.image.now l.task.limits;
  batches : All (IsBatch (setting_of l.task.image.now l.task.limits) l.task.exploration.now) l.batches.items;
}
