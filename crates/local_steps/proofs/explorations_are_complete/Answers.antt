use Rattle.local_steps.proofs.explorations_are_complete.Goals as goal
use Rattle.local_steps.proofs.BlockRuns.{explored_is_all}

pub returns : goal.returns
returns c s rests private cost k seen outcomes x = explored_is_all s _ private cost k _ _ x
