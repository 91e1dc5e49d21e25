use Rattle.block_model.proofs.theorems.some_hart_has_a_choice.Goals as goal
use Rattle.block_model.proofs.Choosing.{some_hart_goes_on}

pub returns : goal.returns
returns c = λ s seed log run harts goes. some_hart_goes_on s seed log run.allowed harts goes
