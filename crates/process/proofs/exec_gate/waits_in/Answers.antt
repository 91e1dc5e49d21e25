use Rattle.process.proofs.ExecGates.{touches_is}
use Rattle.process.proofs.exec_gate.waits_in.Goals as goal

pub returns : goal.returns
returns c = touches_is c.args.pages c.args.state.now.buffer c.touches_any.result c.touches_any.ensures
