use Rattle.std.proofs.Common.{◌≡◌, All, length}
use Rattle.block_model.specs.Setting.{setting_of}
use Rattle.explored_runs.specs.Jobs.{IsJob}
use Rattle.explored_runs.proofs.jobs.new_jobs.Given as goal

abbrev pub invariant-loop : goal.invariant-loop
invariant-loop l = record {
  count : length l.jobs.items ≡ l.counter;
  jobs : All (IsJob (setting_of l.task.image.now l.task.limits) l.task.exploration.now) l.jobs.items;
}
