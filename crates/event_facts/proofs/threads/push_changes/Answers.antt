use Rattle.std.proofs.Common.{◌+◌, ◌∙◌, arith}
use Rattle.event_facts.specs.Threads.{change_facts, told_from}
use Rattle.event_facts.proofs.Lists.{all_numbers, piece, range_step}
use Rattle.event_facts.proofs.threads.push_changes.Goals as goal

pub loop-earlier-preserved : goal.loop-earlier-preserved
loop-earlier-preserved c =
    range_step (told_from c.args.states.now c.args.threads.now.threads) _ _ _ c.loop-earlier.earlier c.loop-earlier.invariant
    (piece _ _ _ _ c.in_ok-push_if.ensures
    (c.changed.ensures ∙ (λ i. change_facts (c.loop-earlier.earlier + 1) (c.at_place-before.ensures i) (c.state.ensures i))))

pub returns : goal.returns
returns c =
    all_numbers (told_from c.args.states.now c.args.threads.now.threads) _ _ c.loop-earlier.earlier c.args.given (omega arith) c.loop-earlier.invariant
