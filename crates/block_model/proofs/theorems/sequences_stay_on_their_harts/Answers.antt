use Rattle.block_model.proofs.theorems.sequences_stay_on_their_harts.Goals as goal
use Rattle.block_model.specs.Deciding.{history}
use Rattle.block_model.proofs.Sequences.{runs_throughout}

pub returns : goal.returns
returns c s log h q run is = runs_throughout s (history s log) h q run.allowed is
