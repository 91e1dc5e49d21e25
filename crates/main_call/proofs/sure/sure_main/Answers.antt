use Rattle.main_call.proofs.NeverFailing.{sure_of}
use Rattle.main_call.proofs.sure.sure_main.Goals as goal

pub returns : goal.returns
returns g c = record { outcome = sure_of _ _ _ _ _ c.rseq_main.result c.rseq_main.ensures.outcome }
