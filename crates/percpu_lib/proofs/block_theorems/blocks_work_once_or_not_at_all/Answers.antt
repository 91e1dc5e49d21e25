use Rattle.percpu_lib.proofs.KindLaws.{course_of_kind}
use Rattle.percpu_lib.proofs.RunLaws.{partial_in, whole_in}
use Rattle.percpu_lib.proofs.block_theorems.blocks_work_once_or_not_at_all.Goals as goal

pub returns : goal.returns
returns c = record {
  whole = λ k s log p. whole_in (course_of_kind k p) s log;
  not_whole = λ k s log p. partial_in (course_of_kind k p) s log;
}
