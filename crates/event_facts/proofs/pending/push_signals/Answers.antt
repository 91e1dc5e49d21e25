use Rattle.std.proofs.Common.{◌+◌, ◌∙◌, ◌++◌, arith}
use Rattle.event_facts.specs.Pending.{held_facts, signal_from}
use Rattle.event_facts.proofs.Lists.{all_numbers, range_step}
use Rattle.event_facts.proofs.SignalChanges.{all_signalled}
use Rattle.event_facts.proofs.pending.push_signals.Goals as goal

pub loop-earlier-preserved : goal.loop-earlier-preserved
loop-earlier-preserved c =
    range_step (signal_from c.args.pending.now c.args.delivered c.args.tid.0 c.args.signals.now) _ _ _ c.loop-earlier.earlier c.loop-earlier.invariant
    (c.in_ok-push_held.ensures
    ∙ (λ i. c.loop-earlier.facts.items
    ++ held_facts (c.delivered_to-to.ensures i) (c.loop-earlier.earlier + 1) (c.at_place-before.ensures i) (c.held_pending.ensures i)))

pub returns : goal.returns
returns c = λ before is.
    all_signalled before c.args.signals.now c.args.pending.now c.args.given c.args.delivered c.args.tid.0 _ _ is
    (all_numbers (signal_from c.args.pending.now c.args.delivered c.args.tid.0 c.args.signals.now) _ _ c.loop-earlier.earlier c.args.given (omega arith)
    c.loop-earlier.invariant)
