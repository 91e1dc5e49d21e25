use Rattle.process.proofs.DrainEvent.{may_drain}
use Rattle.process.proofs.parts.Parts.made.Goals as goal

pub event-requires-clause-drains : goal.event-requires-clause-drains
event-requires-clause-drains c is = may_drain c.requires.code.stand c.args.self.now c.args.hart.0 c.requires.code.place c.requires.code.alone.none
