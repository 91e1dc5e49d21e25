use Rattle.block_model.proofs.Stretches.{stays}
use Rattle.block_model.proofs.theorems.hart_stays_as_it_is.Goals as goal

pub returns : goal.returns
returns c = λ s seed log more h t run at same. let is = stays s seed h t log more run.allowed at same in (is.runs, is.same_file, is.same_luck)
