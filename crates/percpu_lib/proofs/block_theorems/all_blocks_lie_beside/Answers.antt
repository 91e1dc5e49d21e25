use Rattle.percpu_lib.proofs.KindLaws.{lies_beside}
use Rattle.percpu_lib.proofs.block_theorems.all_blocks_lie_beside.Goals as goal

pub returns : goal.returns
returns c = lies_beside
