use Rattle.percpu_lib.proofs.AddLaw.{add_course}
use Rattle.percpu_lib.proofs.RunLaws.{registers_in}
use Rattle.percpu_lib.proofs.theorems.add_keeps_registers.Goals as goal

pub returns : goal.returns
returns c s log entry p = registers_in (add_course p).formed s log entry
