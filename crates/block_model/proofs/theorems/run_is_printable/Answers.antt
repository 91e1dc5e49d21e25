use Rattle.block_model.proofs.theorems.run_is_printable.Goals as goal
use Rattle.block_model.proofs.Entries.{all_harts, all_threads, all_addresses}

pub returns : goal.returns
returns c = record {
  harts = λ s log run. all_harts s log run.allowed;
  threads = λ s log short run. all_threads s log short run.allowed;
  addresses = λ s log start bytes run. all_addresses s log start bytes run.allowed;
}
