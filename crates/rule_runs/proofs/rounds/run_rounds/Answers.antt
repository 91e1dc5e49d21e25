use Rattle.std.proofs.Common.{sym, ◌∙◌}
use Rattle.rule_runs.proofs.RoundTurns.{booted_on_way, round_nearer, round_on_way, round_whole}
use Rattle.rule_runs.proofs.rounds.run_rounds.Goals as goal

pub rounds-init : goal.rounds-init
rounds-init c = booted_on_way _ _ c.in_ok-machine.machine c.in_ok-machine.ensures

pub rounds-smaller : goal.rounds-smaller
rounds-smaller c =
    round_nearer _ _ c.rounds.machine c.make_round.new.machine c.rounds.invariant c.make_round.ensures.round
    c.make_round.ensures.run (sym c.make_round.ensures.made ∙ c.rounds-test.true)

pub rounds-preserved : goal.rounds-preserved
rounds-preserved c =
    round_on_way _ _ c.rounds.machine c.make_round.new.machine c.rounds.invariant c.make_round.ensures.round
    c.make_round.ensures.run c.make_round.ensures.chosen (sym c.make_round.ensures.made ∙ c.rounds-test.true)

pub returns : goal.returns
returns c =
    round_whole _ _ c.rounds.machine c.make_round.new.machine c.requires.limits c.rounds.invariant
    c.make_round.ensures.round c.make_round.ensures.run (sym c.make_round.ensures.made ∙ c.rounds-test.false)
