use Rattle.block_model.proofs.theorems.plain_events_swap.Goals as goal
use Rattle.block_model.proofs.Swaps.Logs.{swapped}

pub returns : goal.returns
returns c s earlier later e f run may = swapped s earlier later e f run may
