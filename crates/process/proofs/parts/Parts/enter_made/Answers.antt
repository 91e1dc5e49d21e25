use Rattle.process.proofs.Common.{slice_get, eqb}
use Rattle.process.proofs.Events.{lost_nothing}
use Rattle.process.proofs.Interruptions.{none_written}
use Rattle.process.proofs.parts.Parts.enter_made.Goals as goal

pub returns-in_default-clause-pages : goal.returns-in_default-clause-pages
returns-in_default-clause-pages c = rw c.in_default.is (none_written c.args.self.now.pages)

pub returns-in_default-clause-harts : goal.returns-in_default-clause-harts
returns-in_default-clause-harts c k = rw c.in_default.is (lost_nothing (eqb k c.args.hart.0) (slice_get c.args.self.now.harts.items k))
