use Rattle.machine_core.proofs.Common.{slice_get}
use Rattle.machine_core.proofs.MachineCredits.{mapped_itself}
use Rattle.machine_core.proofs.credits.follow_seen.Goals as goal

pub returns-in-Some-clause-harts : goal.returns-in-Some-clause-harts
returns-in-Some-clause-harts c k = rw c.in-Some.is (c.follow.ensures.harts k)

pub returns-in-None-clause-harts : goal.returns-in-None-clause-harts
returns-in-None-clause-harts c k = rw c.in-None.is (mapped_itself (slice_get c.args.harts.now.items k))
