use Rattle.block_model.proofs.theorems.signals_belong_to_live_threads.Goals as goal
use Rattle.block_model.proofs.IdsOfRuns.{held_in}
use Rattle.block_model.specs.Deciding.{history}

pub returns : goal.returns
returns c = λ s log run. (held_in s (history s log) run.allowed).signals
