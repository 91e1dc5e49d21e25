use Rattle.block_model.proofs.theorems.first_bad_line.Goals as goal
use Rattle.block_model.proofs.Replay.{bad_is, is_bad}

pub returns : goal.returns
returns c = λ s lines n. (λ is. bad_is s lines n is, λ f. is_bad s lines n f)
