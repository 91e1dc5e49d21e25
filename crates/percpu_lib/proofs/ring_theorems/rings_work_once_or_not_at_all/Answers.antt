use Rattle.percpu_lib.proofs.RingLaws.{ring_course}
use Rattle.percpu_lib.proofs.RunLaws.{partial_in, whole_in}
use Rattle.percpu_lib.proofs.ring_theorems.rings_work_once_or_not_at_all.Goals as goal

pub returns : goal.returns
returns c = record {
  whole = λ k count s log p at area h q some few. whole_in (ring_course count some few p k) s log at area h q;
  not_whole = λ k count s log p at area h q some few. partial_in (ring_course count some few p k) s log at
      area h q;
}
