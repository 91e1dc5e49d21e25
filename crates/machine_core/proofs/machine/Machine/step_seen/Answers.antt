use Rattle.machine_core.proofs.Common.{◌<◌, rules, sym, arith, IfOk-at_ok, IsAfter, done_of, here_of, seen, stand_of}
use Rattle.machine_core.proofs.StretchAppends.{code_open, has_room, is_alone, place_open}
use Rattle.machine_core.proofs.MachineCredits.{machine_next}
use Rattle.machine_core.proofs.MachineSteps.{IsStep, refused, stepped}
use Rattle.machine_core.proofs.machine.Machine.step_seen.Goals.{In-Ok}
use Rattle.machine_core.proofs.machine.Machine.step_seen.Goals as goal

pub make-requires : goal.make-requires
make-requires c = code_open c.self.inside c.args.hart.0 c.self.invariant (rw (← c.self.view_is) at c.requires.goes) (rw (← c.self.view_is) at c.requires.hart)

-- how the event was made
made : (c : In-Ok) → IsAfter (stand_of (seen c.self.inside)) c.args.hart.0 (done_of c.args.choice (here_of (seen c.self.inside) c.args.hart.0)) c.self.inside.parts c.make.new.self
    × IsStep (seen c.self.inside) c.args.hart c.args.choice c.in-Ok.entry c.make.new.self
made c =
    let m = c.self.inside in
    let v = stand_of (seen m) in
    let place = place_open m c.args.hart.0 c.self.invariant (rw (← c.self.view_is) at c.requires.goes) (rw (← c.self.view_is) at c.requires.hart) in
    let after = IfOk-at_ok (λ e. IsAfter v c.args.hart.0 (done_of c.args.choice (here_of (seen m) c.args.hart.0)) m.parts c.make.new.self) c.in-Ok.is (c.make.ensures.after v place.at (is_alone m)) in
    (after, stepped (seen m) m.parts c.make.new.self c.args.hart c.args.choice c.make.result c.in-Ok.entry place (c.make.ensures.answer v place.at (is_alone m)) c.in-Ok.is after)

pub invariant_of-self : goal.invariant_of-self
invariant_of-self c =
    let is = made (goal.at.invariant_of-self c).In-Ok in
    machine_next c.self.inside c.args.hart c.args.choice c.in-Ok.entry c.make.new.self _ _ _ _ c.args.sight c.self.invariant
    (rw (← c.self.view_is) at c.requires.goes) (rw (← c.self.view_is) at c.requires.hart) is.1 is.0.credits (rw (← c.self.view_is) at c.requires.sight)
    c.follow_seen-self-inside.ensures.harts c.follow_seen-self-inside.ensures.generators c.follow_seen-self-inside.ensures.followed c.append.ensures.items c.append.ensures.capacity

pub returns-in-Ok : goal.returns-in-Ok
returns-in-Ok c =
    let step = (made (goal.at.returns-in-Ok c).In-Ok).1 in
    record { answer = rw (← c.self.view_is) (sym step.decided); of = (step.hart, step.choice); ok = search rules; err = search rules; block_run = rw c.append.ensures.items step.run }

pub returns-in-Err-clause-answer : goal.returns-in-Err-clause-answer
returns-in-Err-clause-answer c =
    let m = c.self.inside in
    let place = place_open m c.args.hart.0 c.self.invariant (rw (← c.self.view_is) at c.requires.goes) (rw (← c.self.view_is) at c.requires.hart) in
    rw (← c.self.view_is) (sym (refused (seen m) m.parts c.args.hart.0 c.args.choice c.make.result c.in-Err.why place (c.make.ensures.answer (stand_of (seen m)) place.at (is_alone m)) c.in-Err.is))

pub append-requires : goal.append-requires
append-requires c =
    let room = has_room c.self.inside (rw (← c.self.view_is) at c.requires.goes) in
    omega (arith, room, c.self.invariant.room, c.self.inside.log.ok.0)

pub follow_seen-self-inside-requires-clause-held : goal.follow_seen-self-inside-requires-clause-held
follow_seen-self-inside-requires-clause-held c =
    let lt : c.args.hart.0 < c.self.inside.limits.harts = rw (← c.self.view_is) at c.requires.hart in
    omega (arith, (made (goal.at.follow_seen-self-inside-requires-clause-held c).In-Ok).0.tied.all_harts, lt)
