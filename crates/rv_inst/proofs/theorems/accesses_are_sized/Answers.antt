use Rattle.rv_inst.proofs.Laws.{meaning-sized}
use Rattle.rv_inst.proofs.theorems.accesses_are_sized.Goals as goal

pub returns : goal.returns
returns c = meaning-sized
