use Rattle.explored_runs.proofs.DrawnOutcomes.{drawn_outcomes}
use Rattle.explored_runs.proofs.theorems.explored_runs_are_drawn.Goals as goal

pub returns : goal.returns
returns c = drawn_outcomes
