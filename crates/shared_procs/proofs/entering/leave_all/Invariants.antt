-- Some of the stores have entered memory.
use Rattle.shared_procs.proofs.Common.{length, AreEntering}
use Rattle.shared_procs.proofs.entering.leave_all.Given as goal

abbrev pub invariant-stores : goal.invariant-stores
invariant-stores l = AreEntering l.initial.buffer l.buffer l.initial.pages l.initial.segment l.initial.other l.pages l.segment l.other

abbrev pub decreases-stores : goal.decreases-stores
decreases-stores l = length l.buffer
