use Rattle.process.proofs.Common.{with_hart-or}
use Rattle.process.proofs.requests.with_hart.Goals as goal

pub returns : goal.returns
returns c = with_hart-or c.args.set c.args.hart.0 c.requires
