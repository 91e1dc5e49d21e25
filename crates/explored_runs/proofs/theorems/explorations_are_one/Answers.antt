use Rattle.explored_runs.proofs.OneExploration.{one_exploration}
use Rattle.explored_runs.proofs.theorems.explorations_are_one.Goals as goal

pub returns : goal.returns
returns c = one_exploration
