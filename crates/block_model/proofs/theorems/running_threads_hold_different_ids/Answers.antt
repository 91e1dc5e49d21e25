use Rattle.block_model.proofs.theorems.running_threads_hold_different_ids.Goals as goal
use Rattle.block_model.proofs.IdsOfRuns as ids
use Rattle.block_model.proofs.IdsOfCalls as stay

pub returns : goal.returns
returns c = record {
  apart = λ s log few run. ids.ids_apart s log few run.allowed;
  below_harts = λ s log h t entry few run may. ids.below_harts s log h t entry few run.allowed may;
  below_live = λ s log h t entry few run may. ids.below_live s log h t entry few run.allowed may;
  least = λ s log h t entry few run may. ids.least_free s log h t entry few run.allowed may;
  its = λ s log entry few run is there. ids.its_id s log entry few run.allowed is there;
  stays = λ s log entry h k t few run was is. stay.id_stays s log entry h k t few run.allowed was is;
}
