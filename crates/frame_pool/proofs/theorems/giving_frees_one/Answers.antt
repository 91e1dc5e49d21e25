use Rattle.frame_pool.proofs.Counting.{free_count-giving}
use Rattle.frame_pool.proofs.theorems.giving_frees_one.Goals as goal

pub returns : goal.returns
returns c = free_count-giving
