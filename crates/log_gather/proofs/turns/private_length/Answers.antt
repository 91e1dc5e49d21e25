use Rattle.std.proofs.Common.{arith, length, ◌≤◌}
use Rattle.std.proofs.lemmas.List.{length-map, length-take-le}
use Rattle.log_gather.specs.Marks.{step_of}
use Rattle.log_gather.proofs.MarkedTurns.{disturbed_length, undisturbed_length}
use Rattle.log_gather.proofs.turns.private_length.Goals as goal

pub slice_bounds-is_undisturbed-end : goal.slice_bounds-is_undisturbed-end
slice_bounds-is_undisturbed-end c =
    let reach = c.reach_from-reach.ensures c.args.details.now in
    let n = c.reach_from-reach.result.length in
    let within : n ≤ length c.args.from.now = omega (arith, reach.within, length-map c.args.from.now (step_of c.args.details.now)) in
    omega (arith, within, length-take-le n c.args.from.now within)

pub returns-then-undisturbed : goal.returns-then-undisturbed
returns-then-undisturbed c =
    undisturbed_length c.args.details.now c.args.hart.0 c.args.inside_at_end c.args.from.now _ c.reach_from-reach.result c.requires
    (c.reach_from-reach.ensures c.args.details.now) c.in_ok-undisturbed.undisturbed c.if-not-from.false c.if-not-reach.false c.if-reach.false
    c.in_ok-undisturbed.ensures c.if-undisturbed.true

pub returns-else-undisturbed : goal.returns-else-undisturbed
returns-else-undisturbed c =
    disturbed_length c.args.details.now c.args.hart.0 c.args.inside_at_end c.args.from.now _ c.reach_from-reach.result c.requires
    (c.reach_from-reach.ensures c.args.details.now) c.in_ok-undisturbed.undisturbed c.if-not-from.false c.if-not-reach.false c.if-reach.false
    c.in_ok-undisturbed.ensures c.if-undisturbed.false
