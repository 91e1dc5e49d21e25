use Rattle.explored_runs.proofs.Told.{adds_up, different}
use Rattle.explored_runs.proofs.theorems.outcomes_are_told_once.Goals as goal

pub returns : goal.returns
returns c = record {
  runs = λ s x a explored. adds_up s x a.runs a explored.told;
  different = λ s x a explored. different s x a.runs a explored.told;
}
