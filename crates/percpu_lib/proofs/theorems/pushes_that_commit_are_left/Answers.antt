use Rattle.percpu_lib.proofs.PushLaw.{push_course}
use Rattle.percpu_lib.proofs.RunLaws.{left_last, left_next}
use Rattle.percpu_lib.proofs.theorems.pushes_that_commit_are_left.Goals as goal

pub returns : goal.returns
returns c = record {
  followed = λ s log entry p. left_next (push_course p) s log entry;
  last = λ s log p. left_last (push_course p) s log;
}
