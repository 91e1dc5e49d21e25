use Rattle.block_model.specs.Deciding.{history}
use Rattle.percpu_lib.specs.Uses.{add_form}
use Rattle.percpu_lib.proofs.AddLaw.{add_course}
use Rattle.percpu_lib.proofs.ShareLaw.{outside_before}
use Rattle.percpu_lib.proofs.theorems.adds_begin_outside.Goals as goal

pub returns : goal.returns
returns c s log p at area t others run held can shares =
    outside_before s (add_form p) at area t (add_course p).formed (history s log) held others run.allowed shares can
