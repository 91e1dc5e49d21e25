use Rattle.process.proofs.ExecGates.{span_from}
use Rattle.process.proofs.exec_gate.from_on.Goals as goal

pub returns : goal.returns
returns c = span_from c.args.pages _ c.args.start c.saturating_sub-skipped.result c.saturating_sub-skipped.ensures c.max-first.ensures c.saturating_sub-count.ensures
