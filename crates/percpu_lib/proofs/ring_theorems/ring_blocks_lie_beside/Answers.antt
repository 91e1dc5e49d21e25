use Rattle.percpu_lib.proofs.RingLaws.{ring_lies_beside}
use Rattle.percpu_lib.proofs.ring_theorems.ring_blocks_lie_beside.Goals as goal

pub returns : goal.returns
returns c = ring_lies_beside
