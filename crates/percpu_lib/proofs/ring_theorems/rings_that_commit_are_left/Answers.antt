use Rattle.percpu_lib.proofs.RingLaws.{ring_course}
use Rattle.percpu_lib.proofs.RunLaws.{left_last, left_next}
use Rattle.percpu_lib.proofs.ring_theorems.rings_that_commit_are_left.Goals as goal

pub returns : goal.returns
returns c = record {
  followed = λ k count s log entry p at area h q some few.
      left_next (ring_course count some few p k) s log entry at area h q;
  last = λ k count s log p at area h q some few. left_last (ring_course count some few p k) s log at area h q;
}
