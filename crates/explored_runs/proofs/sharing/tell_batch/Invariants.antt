-- the runs so far are told and taken out, and as many outcomes as were asked for aren't found yet
use Rattle.std.proofs.Common.{◌≡◌, ◌+◌, ◌≤◌, length, false}
use Rattle.block_model.specs.Setting.{setting_of}
use Rattle.explored_runs.specs.Accounts.{account_of, has_enough}
use Rattle.explored_runs.specs.Explored.{AreMadeFrom, IsExploring}
use Rattle.explored_runs.proofs.sharing.tell_batch.Given as goal

abbrev pub invariant-loop-made : goal.invariant-loop-made
invariant-loop-made l = record {
  exploring : IsExploring (setting_of l.task.image.now l.task.limits) l.task.exploration.now (account_of l.explored);
  wanted : has_enough l.task.exploration.now.until (account_of l.explored) ≡ false;
  told : l.explored.runs ≡ l.fn.batch.from + l.made-index;
  few : l.fn.batch.from + length l.made-items ≤ l.task.exploration.now.runs;
  made : AreMadeFrom (setting_of l.task.image.now l.task.limits) l.task.exploration.now l.fn.batch.from l.made-items;
}
