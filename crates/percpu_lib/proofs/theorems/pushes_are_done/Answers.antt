use Rattle.percpu_lib.specs.Kinds.{pushes}
use Rattle.percpu_lib.proofs.KindLaws.{comes_to_end, comes_where_shared}
use Rattle.percpu_lib.proofs.theorems.pushes_are_done.Goals as goal

pub returns : goal.returns
returns c = record {
  shared = λ s log stretch p. comes_where_shared pushes p s log stretch;
  outside = λ s log stretch p at area h t. comes_to_end pushes s p at area h t log stretch;
}
