use Rattle.block_model.proofs.theorems.plain_machine_plays.Goals as goal
use Rattle.block_model.proofs.PlainMachine.{plain_plays, plain_makes}

pub returns : goal.returns
returns c = record { log = λ s lines. plain_plays s lines; says = λ s lines log is. plain_makes s lines log is }
