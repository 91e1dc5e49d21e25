use Rattle.membarrier_cmds.proofs.Neighbours.{nobody_runs}
use Rattle.membarrier_cmds.proofs.theorems.nobody_beside.Goals as goal

pub returns : goal.returns
returns c = λ mine other cmd flags cpu here running harts. nobody_runs mine other flags cpu here running harts cmd
