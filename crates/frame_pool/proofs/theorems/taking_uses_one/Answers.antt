use Rattle.frame_pool.proofs.Counting.{free_count-taking}
use Rattle.frame_pool.proofs.theorems.taking_uses_one.Goals as goal

pub returns : goal.returns
returns c = free_count-taking
