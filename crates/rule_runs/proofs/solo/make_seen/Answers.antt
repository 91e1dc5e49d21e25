use Rattle.std.proofs.Common.{sym, ◌∙◌}
use Rattle.rule_runs.proofs.SoloSteps.{choice_is_seen, turn_stopped}
use Rattle.rule_runs.proofs.solo.make_seen.Goals as goal

pub make-requires-clause-chosen : goal.make-requires-clause-chosen
make-requires-clause-chosen c =
    choice_is_seen c.args.machine.now c.sight.result c.in-Some.choice c.sight.ensures
    (sym c.seen_choice.ensures ∙ c.in-Some.is)

pub returns-in-None : goal.returns-in-None
returns-in-None c =
    turn_stopped c.args.machine.now c.sight.result c.requires.one_hart c.requires.so_far c.sight.ensures
    (sym c.seen_choice.ensures ∙ c.in-None.is)
