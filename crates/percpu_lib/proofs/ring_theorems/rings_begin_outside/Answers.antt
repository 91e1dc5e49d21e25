use Rattle.block_model.specs.Deciding.{history}
use Rattle.percpu_lib.specs.RingKinds.{ring_form_of}
use Rattle.percpu_lib.proofs.RingLaws.{ring_formed}
use Rattle.percpu_lib.proofs.ShareLaw.{outside_before}
use Rattle.percpu_lib.proofs.ring_theorems.rings_begin_outside.Goals as goal

pub returns : goal.returns
returns c k count s log p at area t others few run held can shares =
    outside_before s (ring_form_of k count p) at area t (ring_formed k count few p) (history s log) held others
    run.allowed shares can
