use Rattle.std.proofs.Common.{rules, ◌∙◌, sym}
use Rattle.log_gather.proofs.PartedMarks.{AreTakenTo, one_passed, one_taken}
use Rattle.log_gather.proofs.moving.take_own.Goals as goal

pub loop-i-preserved-then-is_of : goal.loop-i-preserved-then-is_of
loop-i-preserved-then-is_of c =
    let v = c.loop-i.invariant in
    let was : AreTakenTo c.args.hart.0 c.args.span.now c.loop-i.span c.loop-i.i c.loop-i.others c.loop-i.own.items =
    record { long = v.long; low = v.low; many = v.many; own = v.own; front = v.front; rest = v.rest } in
    let t = one_taken c.args.hart.0 c.args.span.now c.loop-i.span c.loop-i.i c.loop-i.others c.loop-i.own.items was _ c.loop-i-test.true
    _ (sym c.is_of.ensures ∙ c.if-is_of.true) (search rules) in
    record { long = t.long; low = t.low; many = t.many; own = t.own; front = t.front; rest = t.rest }

pub loop-i-preserved : goal.loop-i-preserved
loop-i-preserved c =
    let v = c.loop-i.invariant in
    let was : AreTakenTo c.args.hart.0 c.args.span.now c.loop-i.span c.loop-i.i c.loop-i.others c.loop-i.own.items =
    record { long = v.long; low = v.low; many = v.many; own = v.own; front = v.front; rest = v.rest } in
    let t = one_passed c.args.hart.0 c.args.span.now c.loop-i.span c.loop-i.i c.loop-i.others c.loop-i.own.items was _ c.loop-i-test.true
    (sym c.is_of.ensures ∙ c.if-is_of.false) in
    record { long = t.long; low = t.low; many = t.many; own = t.own; front = t.front; rest = t.rest }
