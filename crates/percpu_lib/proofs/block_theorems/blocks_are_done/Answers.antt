use Rattle.percpu_lib.proofs.KindLaws.{comes_to_end, comes_where_shared, few_words}
use Rattle.percpu_lib.proofs.block_theorems.blocks_are_done.Goals as goal

pub returns : goal.returns
returns c = record {
  few = few_words;
  shared = λ k s log stretch p. comes_where_shared k p s log stretch;
  outside = λ k s log stretch p at area h t. comes_to_end k s p at area h t log stretch;
}
