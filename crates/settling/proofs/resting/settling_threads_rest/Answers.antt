use Rattle.settling.proofs.Settling.{may_settle}
use Rattle.settling.proofs.resting.settling_threads_rest.Goals as goal

pub returns : goal.returns
returns c s p h is tables = may_settle s p h tables is
