use Rattle.block_model.specs.Deciding.{history}
use Rattle.percpu_lib.specs.Pushes.{push_form}
use Rattle.percpu_lib.proofs.PushLaw.{push_course}
use Rattle.percpu_lib.proofs.ShareLaw.{outside_before}
use Rattle.percpu_lib.proofs.theorems.pushes_begin_outside.Goals as goal

pub returns : goal.returns
returns c s log p at area t others run held can shares =
    outside_before s (push_form p) at area t (push_course p).formed (history s log) held others run.allowed shares can
