-- What the interruption of a thread would come to.
use Rattle.machine_core.proofs.Common.{sym, ap, ◌∙◌, Here, done_of, seen, stand_of, same_here}
use Rattle.machine_core.proofs.AllowedPlaces.{allowed_place, may_make}
use Rattle.machine_core.proofs.machine.Machine.foreseen.Goals as goal

pub foreseen-requires : goal.foreseen-requires
foreseen-requires c =
    may_make c.self.inside c.args.hart.0 c.args.choice c.in-Ok.field-0 c.self.invariant (rw (← c.self.view_is) at (sym c.answer.ensures ∙ c.in-Ok.is))

pub returns-in-Ok-clause-allowed : goal.returns-in-Ok-clause-allowed
returns-in-Ok-clause-allowed c e is =
    let at = allowed_place c.self.inside c.args.hart.0 c.args.choice e c.self.invariant (rw (← c.self.view_is) at is) in
    rw (← c.self.view_is) (c.foreseen.ensures (stand_of (seen c.self.inside)) at.place.at at.free
    ∙ ap (λ (x : Here). (done_of c.args.choice x).interrupted) (same_here (seen c.self.inside) c.args.hart.0 c.self.invariant.run))
