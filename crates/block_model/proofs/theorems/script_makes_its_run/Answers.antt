use Rattle.block_model.proofs.theorems.script_makes_its_run.Goals as goal
use Rattle.block_model.proofs.Laws.{played_is_run, run_is_played}

pub returns : goal.returns
returns c = λ s lines log. (λ is. played_is_run s lines log is, λ p. run_is_played s lines log p.0 p.1)
