use Rattle.percpu_lib.proofs.RingLaws.{ring_formed}
use Rattle.percpu_lib.proofs.RunLaws.{registers_in}
use Rattle.percpu_lib.proofs.ring_theorems.rings_keep_registers.Goals as goal

pub returns : goal.returns
returns c k count s log entry p at area t r few =
    registers_in (ring_formed k count few p) s log entry at area t r
