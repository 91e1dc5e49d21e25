use Rattle.process.proofs.Common.{arith, without_hart-and}
use Rattle.process.proofs.requests.without_hart.Goals as goal

pub returns : goal.returns
returns c = without_hart-and c.args.set c.args.hart.0 c.requires (omega arith)
