use Rattle.rule_runs.proofs.RoundTurns.{turn_on}
use Rattle.rule_runs.proofs.rounds.make_round.Goals as goal

pub loop-hart-preserved : goal.loop-hart-preserved
loop-hart-preserved c = record {
  turns = turn_on c.args.machine.now c.loop-hart.machine c.advance.new.self c.loop-hart.hart c.advance.result
      c.loop-hart.invariant.turns c.advance.ensures.answer c.advance.ensures.log;
  run = c.advance.ensures.block_run;
  chosen = c.advance.ensures.chosen;
}
