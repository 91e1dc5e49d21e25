use Rattle.block_model.specs.Deciding.{history}
use Rattle.block_model.proofs.SignalsOfWaitersInRuns.{calm_at}
use Rattle.block_model.proofs.theorems.no_thread_waits_with_a_signal.Goals as goal

pub returns : goal.returns
returns c = λ s log t run waiting. calm_at s (history s log) run.allowed t waiting
