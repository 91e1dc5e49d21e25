use Rattle.rule_runs.proofs.SoloSteps.{turn_made}
use Rattle.rule_runs.proofs.solo.make.Goals as goal

pub returns : goal.returns
returns c =
    turn_made c.args.machine.now c.step.new.self c.args.choice c.step.result c.is_ok.result
    c.is_ok.ensures.value c.requires.one_hart
    c.requires.so_far c.requires.chosen c.step.ensures.answer c.step.ensures.of c.step.ensures.ok
    c.step.ensures.err c.step.ensures.block_run
