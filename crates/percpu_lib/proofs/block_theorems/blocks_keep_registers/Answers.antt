use Rattle.percpu_lib.proofs.KindLaws.{course_of_kind}
use Rattle.percpu_lib.proofs.RunLaws.{registers_in}
use Rattle.percpu_lib.proofs.block_theorems.blocks_keep_registers.Goals as goal

pub returns : goal.returns
returns c k s log entry p = registers_in (course_of_kind k p).formed s log entry
