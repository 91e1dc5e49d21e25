-- With a store, and with none.
use Rattle.shared_procs.proofs.entering.tell.Goals as goal

pub returns-in-Some-clause-other : goal.returns-in-Some-clause-other
returns-in-Some-clause-other c s y d tied took barrier = rw c.in-Some.is (c.tell_one.ensures.other s y d tied took barrier)

pub returns-in-None-clause-other : goal.returns-in-None-clause-other
returns-in-None-clause-other c s y d tied took barrier = rw c.in-None.is (c.unseen.ensures s y d tied took barrier)
