use Rattle.std.proofs.Common.{sym, ◌∙◌}
use Rattle.rule_runs.proofs.SoloSteps.{turn_after, turn_executed}
use Rattle.rule_runs.proofs.solo.make_event.Goals as goal

pub returns-in-Ok : goal.returns-in-Ok
returns-in-Ok c =
    turn_executed c.args.machine.now c.step.new.self c.step.result _ c.in-Ok.is (sym c.has_signal.ensures ∙ c.if-has_signal.false) c.requires.so_far
    c.step.ensures.answer
    c.step.ensures.of c.step.ensures.ok c.step.ensures.err c.step.ensures.block_run

pub returns-in-Err : goal.returns-in-Err
returns-in-Err c =
    turn_after c.args.machine.now c.step.new.self c.make_seen-in-Err.new.machine c.make_seen-in-Err.result
    c.in-Err.ensures.err c.make_seen-in-Err.ensures
