use Rattle.block_model.proofs.theorems.barriers_return_when_they_are_passed.Goals as goal
use Rattle.block_model.specs.Deciding.{history}
use Rattle.block_model.proofs.Barriers.Targets.{about_others}
use Rattle.block_model.proofs.Barriers.Return.{begun_at, is_called, passed_at, passed_since}
use Rattle.block_model.proofs.Barriers.Waiting.{restart_asked, waits_at}

pub returns : goal.returns
returns c = record {
  begun = λ s earlier later entry run is. begun_at s earlier later entry run.allowed is;
  call = λ s log h b is. is_called h (history s log) b is;
  waits = λ s log h left b run waits is. waits_at s (history s log) h left b run.allowed waits is;
  about = λ s log h k b run is has. about_others s (history s log) h b run.allowed is k has;
  restarts = λ s earlier later entry run is interrupts. restart_asked s earlier later entry run.allowed is interrupts;
  stores = λ s earlier later entry b k run is newest about. (passed_at s earlier later entry b k run.allowed is newest about).entered;
  sequences = λ s earlier later entry b k q run is newest about asks at.
      (passed_since s earlier later entry b k run.allowed is newest about).anew q asks at;
}
