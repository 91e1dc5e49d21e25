use Rattle.std.proofs.Common.{◌-◌, length}
use Rattle.block_model.specs.Setting.{setting_of}
use Rattle.rule_runs.proofs.RoundTurns.{IsOnWay}
use Rattle.rule_runs.proofs.rounds.run_rounds.Given as goal

abbrev pub invariant-rounds : goal.invariant-rounds
invariant-rounds l = IsOnWay (setting_of l.fn.image l.fn.limits) l.fn.seed l.machine

abbrev pub decreases-rounds : goal.decreases-rounds
decreases-rounds l = l.machine.setting.limits.steps - length l.machine.log
