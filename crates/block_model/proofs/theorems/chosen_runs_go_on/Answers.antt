use Rattle.block_model.proofs.theorems.chosen_runs_go_on.Goals as goal
use Rattle.block_model.proofs.Laws.{chosen_start, chosen_more, chosen_shorter}

pub returns : goal.returns
returns c = record {
  start = λ s seed. chosen_start s seed;
  more = λ s seed log h e run chosen next. chosen_more s seed log h e run chosen next;
  shorter = λ s seed log more chosen. chosen_shorter s seed log more chosen;
}
