use Rattle.percpu_lib.specs.Kinds.{adds}
use Rattle.percpu_lib.proofs.KindLaws.{lies_beside}
use Rattle.percpu_lib.proofs.theorems.blocks_lie_beside.Goals as goal

pub returns : goal.returns
returns c pages p at area other held low its = lies_beside adds pages p at area other held low its
