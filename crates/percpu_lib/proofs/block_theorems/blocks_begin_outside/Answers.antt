use Rattle.block_model.specs.Deciding.{history}
use Rattle.percpu_lib.specs.Kinds.{form_of}
use Rattle.percpu_lib.proofs.KindLaws.{course_of_kind}
use Rattle.percpu_lib.proofs.ShareLaw.{outside_before}
use Rattle.percpu_lib.proofs.block_theorems.blocks_begin_outside.Goals as goal

pub returns : goal.returns
returns c k s log p at area t others run held can shares =
    outside_before s (form_of k p) at area t (course_of_kind k p).formed (history s log) held others run.allowed shares can
