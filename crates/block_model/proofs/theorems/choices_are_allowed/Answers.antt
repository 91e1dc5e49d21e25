use Rattle.block_model.proofs.theorems.choices_are_allowed.Goals as goal
use Rattle.block_model.proofs.Choosing.{choice_decides}

pub returns : goal.returns
returns c = λ s seed log h c run chosen. choice_decides s seed log h c run.allowed chosen
