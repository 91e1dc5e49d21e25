use Rattle.process.proofs.Common.{◌∙◌, ◌<◌, ap, append-nil, arith, length, set, take_all, drop_all, map_over_more, common_steps, idle_hart, HartState}
use Rattle.process.proofs.starting.rest.Goals as goal

pub loop-hart-preserved : goal.loop-hart-preserved
loop-hart-preserved c =
    let i = c.loop-hart.hart-index in
    let within : i < length c.args.harts.now = omega arith in
    ap (λ (x : HartState). set c.loop-hart.harts i x) c.reset.ensures
    ∙ map_over_more (λ (_ : HartState). idle_hart) c.args.harts.now c.loop-hart.harts i c.hart-item.result within c.loop-hart.invariant c.hart-item.is

pub returns : goal.returns
returns c = grind (arith, common_steps, take_all, drop_all, append-nil)
