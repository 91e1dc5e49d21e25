use Rattle.frame_pool.proofs.Counting.{free_count-writing}
use Rattle.frame_pool.proofs.theorems.writing_frees_none.Goals as goal

pub returns : goal.returns
returns c = free_count-writing
