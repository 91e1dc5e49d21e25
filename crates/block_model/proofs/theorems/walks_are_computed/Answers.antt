use Rattle.block_model.proofs.theorems.walks_are_computed.Goals as goal
use Rattle.block_model.proofs.Walks.{walk_computed, walk_throughout}

pub returns : goal.returns
returns c = record {
  file = λ s earlier stretch later h t run walk. (walk_computed s earlier stretch later h t run.allowed walk).file_is;
  throughout = λ s earlier first rest later h t run walk. walk_throughout s earlier first rest later h t run.allowed walk;
}
