use Rattle.block_model.proofs.theorems.refused_call_changes_nothing.Goals as goal
use Rattle.block_model.proofs.ErrorCalls.{error_changes_nothing}

pub returns : goal.returns
returns c = λ s earlier later entry short run gives. error_changes_nothing s earlier later entry short run.allowed gives
