use Rattle.block_model.proofs.theorems.block_runs_are_whole.Goals as goal
use Rattle.block_model.proofs.Laws.{block_run}

pub returns : goal.returns
returns c s log run = block_run s log run
