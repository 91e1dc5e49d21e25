use Rattle.frame_pool.proofs.Holding.{IsTaken-apart}
use Rattle.frame_pool.proofs.theorems.free_frame_is_not_held.Goals as goal

pub returns : goal.returns
returns c = λ pool n other free held. IsTaken-apart pool n other held free
