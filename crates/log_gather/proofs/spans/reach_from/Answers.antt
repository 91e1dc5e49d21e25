use Rattle.std.proofs.Common.{arith, rules}
use Rattle.log_gather.proofs.ReachedEvents.{reach_before, reach_to_end}
use Rattle.log_gather.proofs.spans.reach_from.Goals as goal

pub returns-then-begins_act : goal.returns-then-begins_act
returns-then-begins_act c =
    λ d. reach_before c.args.hart.0 c.args.inside_at_end d c.loop-i.i c.loop-i.length c.loop-i.moved_out c.args.from.now _
    c.requires c.loop-i.invariant.stays (omega arith) (search rules) (search rules)

pub returns : goal.returns
returns c =
    λ d. reach_to_end c.args.hart.0 c.args.inside_at_end d c.loop-i.i c.loop-i.length c.loop-i.moved_out c.args.from.now
    c.requires c.loop-i.invariant.stays (omega arith)
