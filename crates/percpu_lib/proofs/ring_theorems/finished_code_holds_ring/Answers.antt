use Rattle.percpu_lib.proofs.RingHeld.{ring_held}
use Rattle.percpu_lib.proofs.ring_theorems.finished_code_holds_ring.Goals as goal

pub returns : goal.returns
returns c k count p base n w a b d bytes i room is more code at word =
    (ring_held k count p base a b d room is more).words bytes n i w code at word
