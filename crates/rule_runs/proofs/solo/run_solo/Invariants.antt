use Rattle.std.proofs.Common.{◌≡◌, ◌-◌, length}
use Rattle.block_model.specs.Setting.{setting_of}
use Rattle.whole_runs.specs.Runs.{IsSoloSoFar}
use Rattle.rule_runs.proofs.solo.run_solo.Given as goal

abbrev pub invariant-events : goal.invariant-events
invariant-events l = (l.machine.setting ≡ setting_of l.fn.image l.fn.limits) × IsSoloSoFar l.machine

abbrev pub decreases-events : goal.decreases-events
decreases-events l = l.machine.setting.limits.steps - length l.machine.log
