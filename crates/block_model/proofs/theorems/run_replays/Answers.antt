use Rattle.block_model.proofs.theorems.run_replays.Goals as goal
use Rattle.block_model.proofs.Replay.{replays}

pub returns : goal.returns
returns c = λ s log run. replays s log run.allowed
