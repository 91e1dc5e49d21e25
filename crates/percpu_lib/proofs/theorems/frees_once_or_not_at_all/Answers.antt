use Rattle.percpu_lib.proofs.FreeLaw.{free_course}
use Rattle.percpu_lib.proofs.RunLaws.{partial_in, whole_in}
use Rattle.percpu_lib.proofs.theorems.frees_once_or_not_at_all.Goals as goal

pub returns : goal.returns
returns c = record {
  whole = λ s log p. whole_in (free_course p) s log;
  not_whole = λ s log p. partial_in (free_course p) s log;
}
