-- What would be answered to a choice.
use Rattle.machine_core.proofs.Common.{sym, stand_of, seen}
use Rattle.machine_core.proofs.StretchAppends.{code_open, is_alone, place_open}
use Rattle.machine_core.proofs.MachineSteps.{allowed, refused}
use Rattle.machine_core.proofs.machine.Machine.answer.Goals as goal

pub answer-requires : goal.answer-requires
answer-requires c =
    code_open c.self.inside c.args.hart.0 c.self.invariant (rw (← c.self.view_is) at c.in_default.ensures.goes) (rw (← c.self.view_is) at c.in_default.ensures.hart)

pub returns-in-Ok : goal.returns-in-Ok
returns-in-Ok c =
    let m = c.self.inside in
    let place = place_open m c.args.hart.0 c.self.invariant (rw (← c.self.view_is) at c.in_default.ensures.goes) (rw (← c.self.view_is) at c.in_default.ensures.hart) in
    rw (← c.self.view_is) (sym (allowed (seen m) m.parts c.args.hart.0 c.args.choice c.answer.result c.in-Ok.entry place (c.answer.ensures (stand_of (seen m)) place.at (is_alone m)) c.in-Ok.is))

pub returns-in-Err : goal.returns-in-Err
returns-in-Err c =
    let m = c.self.inside in
    let place = place_open m c.args.hart.0 c.self.invariant (rw (← c.self.view_is) at c.in_default.ensures.goes) (rw (← c.self.view_is) at c.in_default.ensures.hart) in
    rw (← c.self.view_is) (sym (refused (seen m) m.parts c.args.hart.0 c.args.choice c.answer.result c.in-Err.why place (c.answer.ensures (stand_of (seen m)) place.at (is_alone m)) c.in-Err.is))
