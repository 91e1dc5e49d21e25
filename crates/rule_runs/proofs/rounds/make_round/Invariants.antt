use Rattle.std.proofs.Common.{◌≡◌}
use Rattle.block_model.specs.Choosing.{IsChosen}
use Rattle.block_model.specs.Run.{IsBlockRun}
use Rattle.whole_runs.specs.Rounds.{after_turns}
use Rattle.rule_runs.proofs.rounds.make_round.Given as goal

abbrev pub invariant-loop-hart : goal.invariant-loop-hart
invariant-loop-hart l = record {
  turns : l.machine ≡ record l.initial.machine {
    log = after_turns l.initial.machine.setting l.initial.machine.seed l.initial.machine.log l.hart;
  };
  run : IsBlockRun l.machine.setting l.machine.log;
  chosen : IsChosen l.machine.setting l.machine.seed l.machine.log;
}
