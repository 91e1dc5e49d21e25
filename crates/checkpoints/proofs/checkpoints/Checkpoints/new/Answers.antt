use Rattle.std.proofs.Common.{arith}
use Rattle.checkpoints.proofs.checkpoints.Checkpoints.new.Goals as goal

pub returns : goal.returns
returns c s i k lt at = absurd (omega arith)
