use Rattle.percpu_lib.proofs.RingHeld.{ring_held}
use Rattle.percpu_lib.proofs.ring_theorems.files_hold_ring.Goals as goal

pub returns : goal.returns
returns c k count p base at a b d bytes file image room is more code its holds =
    (ring_held k count p base a b d room is more).file bytes file image at code its holds
