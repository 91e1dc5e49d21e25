use Rattle.percpu_lib.proofs.KindLaws.{course_of_kind}
use Rattle.percpu_lib.proofs.RunLaws.{left_last, left_next}
use Rattle.percpu_lib.proofs.block_theorems.blocks_that_commit_are_left.Goals as goal

pub returns : goal.returns
returns c = record {
  followed = λ k s log entry p. left_next (course_of_kind k p) s log entry;
  last = λ k s log p. left_last (course_of_kind k p) s log;
}
