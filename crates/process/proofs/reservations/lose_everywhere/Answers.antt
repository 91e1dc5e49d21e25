use Rattle.process.proofs.Common.{◌∙◌, ◌<◌, ap, append-nil, arith, length, set, sym, take_all, drop_all, map_over_more, common_steps, lost_by_all, HartState}
use Rattle.process.proofs.reservations.lose_everywhere.Goals as goal

pub loop-state-preserved : goal.loop-state-preserved
loop-state-preserved c =
    let i = c.loop-state.state-index in
    let within : i < length c.args.harts.now = omega arith in
    ap (λ (x : HartState). set c.loop-state.harts i x) (c.lose_all.ensures ∙ ap (lost_by_all c.args.writes.now) (sym c.state-item.is))
    ∙ map_over_more (lost_by_all c.args.writes.now) c.args.harts.now c.loop-state.harts i c.state-item.result within c.loop-state.invariant c.state-item.is

pub returns : goal.returns
returns c = grind (arith, common_steps, take_all, drop_all, append-nil)
