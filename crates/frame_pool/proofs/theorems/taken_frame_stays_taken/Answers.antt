use Rattle.std.proofs.Common.{None}
use Rattle.frame_pool.proofs.Holding.{IsTaken-kept, IsTaken-other}
use Rattle.frame_pool.proofs.theorems.taken_frame_stays_taken.Goals as goal

pub returns-clause-written : goal.returns-clause-written
returns-clause-written c = IsTaken-kept

pub returns-clause-given : goal.returns-clause-given
returns-clause-given c = λ pool n other held two. IsTaken-other pool n other None held two
