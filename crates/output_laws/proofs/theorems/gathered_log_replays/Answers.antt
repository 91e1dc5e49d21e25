use Rattle.output_laws.proofs.GatheredOutputs.{gathered_again}
use Rattle.output_laws.proofs.theorems.gathered_log_replays.Goals as goal

pub returns : goal.returns
returns c = gathered_again
