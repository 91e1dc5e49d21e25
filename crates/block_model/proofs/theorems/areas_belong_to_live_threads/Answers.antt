use Rattle.block_model.proofs.theorems.areas_belong_to_live_threads.Goals as goal
use Rattle.block_model.specs.Deciding.{history}
use Rattle.block_model.proofs.IdsOfRuns.{areas_live, held_in}

pub returns : goal.returns
returns c = record {
  live = λ s log t run some. areas_live s log t run.allowed some;
  one = λ s log t run. (held_in s (history s log) run.allowed).areas.one t;
}
