use Rattle.frame_pool.proofs.Counting.{free_count-add-taken_count}
use Rattle.frame_pool.proofs.theorems.free_and_taken_add_up.Goals as goal

pub returns : goal.returns
returns c = free_count-add-taken_count
