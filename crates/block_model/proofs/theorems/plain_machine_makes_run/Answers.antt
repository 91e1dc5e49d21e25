use Rattle.block_model.proofs.theorems.plain_machine_makes_run.Goals as goal
use Rattle.block_model.proofs.PlainMachine.{plain_makes_run}

pub returns : goal.returns
returns c = λ s log run. plain_makes_run s log run.allowed
