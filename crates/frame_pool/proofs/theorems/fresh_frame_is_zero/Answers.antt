use Rattle.frame_pool.proofs.Fresh.{fresh-at, length-fresh}
use Rattle.frame_pool.proofs.theorems.fresh_frame_is_zero.Goals as goal

pub returns-clause-size : goal.returns-clause-size
returns-clause-size c = length-fresh

pub returns-clause-zero : goal.returns-clause-zero
returns-clause-zero c = fresh-at
