use Rattle.block_model.proofs.theorems.run_is_not_left_open_by_an_instruction.Goals as goal
use Rattle.block_model.specs.Deciding.{history}
use Rattle.block_model.proofs.RunEnds.{not_open}

pub returns : goal.returns
returns c = λ s log run. not_open s (history s log) run.allowed
