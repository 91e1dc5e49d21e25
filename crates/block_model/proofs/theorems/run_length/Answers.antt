use Rattle.block_model.proofs.theorems.run_length.Goals as goal
use Rattle.block_model.proofs.RunEnds.{within_limit}

pub returns : goal.returns
returns c = λ s log run. within_limit s log run.allowed
