use Rattle.process.proofs.Common.{refl}
use Rattle.process.proofs.ExecGates.{span_below}
use Rattle.process.proofs.exec_gate.below.Goals as goal

pub returns : goal.returns
returns c = span_below c.args.pages _ c.args.end c.saturating_sub-most.result c.saturating_sub-most.ensures refl c.min-count.ensures
