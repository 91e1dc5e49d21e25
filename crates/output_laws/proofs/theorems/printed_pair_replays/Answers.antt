use Rattle.output_laws.proofs.PairReplays.{pair_again}
use Rattle.output_laws.proofs.theorems.printed_pair_replays.Goals as goal

pub returns : goal.returns
returns c = pair_again
