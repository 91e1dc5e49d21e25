-- the runs of the first places are made, and the machine is one of the setting
use Rattle.std.proofs.Common.{◌≡◌, ℕ, ◌+◌, ◌<◌, Option, get_or, length}
use Rattle.std.specs.Option.{IfSome}
use Rattle.block_model.specs.Setting.{setting_of}
use Rattle.explored_runs.specs.declared.made.Made.{Made}
use Rattle.explored_runs.specs.Made.{IsMadeAt}
use Rattle.explored_runs.proofs.jobs.make_runs.Given as goal

abbrev pub invariant-loop-made : goal.invariant-loop-made
invariant-loop-made l = record {
  made : (i : ℕ) (d : Option Made) → i < l.made-index
      → IfSome (get_or l.batch i d) (IsMadeAt (setting_of l.task.image.now l.task.limits) l.task.exploration.now (l.from + i));
  size : length l.batch ≡ length l.fn.batch;
  place : l.place ≡ l.from + l.made-index;
  setting : l.run.machine.setting ≡ setting_of l.task.image.now l.task.limits;
}
