use Rattle.output_laws.proofs.Repeats.{printed_again}
use Rattle.output_laws.proofs.theorems.printed_log_replays.Goals as goal

pub returns : goal.returns
returns c = printed_again
