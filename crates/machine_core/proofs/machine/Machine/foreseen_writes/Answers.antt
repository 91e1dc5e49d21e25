-- What the kernel would write.
use Rattle.machine_core.proofs.Common.{sym, ap, ◌∙◌, seen, stand_of, same_here}
use Rattle.process.specs.Foresight.{foreseen_writes}
use Rattle.machine_core.proofs.AllowedPlaces.{allowed_place, may_make}
use Rattle.machine_core.proofs.machine.Machine.foreseen_writes.Goals as goal

pub foreseen_writes-requires : goal.foreseen_writes-requires
foreseen_writes-requires c =
    may_make c.self.inside c.args.hart.0 c.args.choice c.in-Ok.field-0 c.self.invariant (rw (← c.self.view_is) at (sym c.answer.ensures ∙ c.in-Ok.is))

pub returns-in-Ok-clause-allowed : goal.returns-in-Ok-clause-allowed
returns-in-Ok-clause-allowed c e is =
    let at = allowed_place c.self.inside c.args.hart.0 c.args.choice e c.self.invariant (rw (← c.self.view_is) at is) in
    rw (← c.self.view_is) (c.foreseen_writes.ensures (stand_of (seen c.self.inside)) at.place.at at.free
    ∙ ap (foreseen_writes c.args.choice) (same_here (seen c.self.inside) c.args.hart.0 c.self.invariant.run))
