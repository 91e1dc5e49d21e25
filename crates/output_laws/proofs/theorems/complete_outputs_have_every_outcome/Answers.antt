use Rattle.output_laws.proofs.LastLines.{all_there}
use Rattle.output_laws.proofs.theorems.complete_outputs_have_every_outcome.Goals as goal

pub returns : goal.returns
returns c = all_there
