use Rattle.percpu_lib.proofs.PushLaw.{push_course}
use Rattle.percpu_lib.proofs.RunLaws.{registers_in}
use Rattle.percpu_lib.proofs.theorems.push_keeps_registers.Goals as goal

pub returns : goal.returns
returns c s log entry p = registers_in (push_course p).formed s log entry
