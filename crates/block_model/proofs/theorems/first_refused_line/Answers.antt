use Rattle.block_model.proofs.theorems.first_refused_line.Goals as goal
use Rattle.block_model.proofs.Replay.{refused_is, is_refused}

pub returns : goal.returns
returns c = λ s lines n. (λ is. refused_is s lines n is, λ f. is_refused s lines n f)
