use Rattle.percpu_lib.proofs.AddLaw.{add_course}
use Rattle.percpu_lib.proofs.RunLaws.{left_last, left_next}
use Rattle.percpu_lib.proofs.theorems.adds_that_commit_are_left.Goals as goal

pub returns : goal.returns
returns c = record {
  followed = λ s log entry p. left_next (add_course p) s log entry;
  last = λ s log p. left_last (add_course p) s log;
}
