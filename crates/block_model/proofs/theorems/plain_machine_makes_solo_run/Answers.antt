use Rattle.block_model.proofs.theorems.plain_machine_makes_solo_run.Goals as goal
use Rattle.block_model.proofs.PlainMachine.{plain_solo_log, plain_solo_says}

pub returns : goal.returns
returns c = record { log = λ s log run solo over. plain_solo_log s log run.allowed solo over; says = λ s log run solo over. plain_solo_says s log run.allowed solo over }
