use Rattle.output_laws.proofs.LastLines.{all_within}
use Rattle.output_laws.proofs.theorems.limited_outputs_have_every_outcome.Goals as goal

pub returns : goal.returns
returns c = all_within
