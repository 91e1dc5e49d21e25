use Rattle.std.proofs.Common.{arith}
use Rattle.event_facts.specs.KernelEvents.{lost_from}
use Rattle.event_facts.proofs.Lists.{all_numbers, piece, range_step}
use Rattle.event_facts.proofs.kept_reservations.push_all_lost_from.Goals as goal

pub loop-number-preserved : goal.loop-number-preserved
loop-number-preserved c =
    range_step (lost_from c.args.own.0 c.args.kept.now c.args.writes.now) _ _ _ c.loop-number.number c.loop-number.invariant
    (piece _ _ _ _ c.in_ok-push_if.ensures c.lost_of.ensures)

pub returns : goal.returns
returns c =
    all_numbers (lost_from c.args.own.0 c.args.kept.now c.args.writes.now) _ _ c.loop-number.number c.args.harts (omega arith) c.loop-number.invariant
