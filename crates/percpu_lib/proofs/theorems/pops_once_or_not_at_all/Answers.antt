use Rattle.percpu_lib.proofs.PopLaw.{pop_course}
use Rattle.percpu_lib.proofs.RunLaws.{partial_in, whole_in}
use Rattle.percpu_lib.proofs.theorems.pops_once_or_not_at_all.Goals as goal

pub returns : goal.returns
returns c = record {
  whole = λ s log p. whole_in (pop_course p) s log;
  not_whole = λ s log p. partial_in (pop_course p) s log;
}
