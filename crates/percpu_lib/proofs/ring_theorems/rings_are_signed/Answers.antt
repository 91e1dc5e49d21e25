use Rattle.percpu_lib.specs.RingKinds.{ring_form_of}
use Rattle.percpu_lib.proofs.BoundLabels.{signature_loaded, signature_word}
use Rattle.percpu_lib.proofs.RingHeld.{ring_places}
use Rattle.percpu_lib.proofs.ring_theorems.rings_are_signed.Goals as goal

pub returns : goal.returns
returns c = record {
  code = λ k count p base a b d bytes room is more code.
      signature_word (ring_form_of k count p) base a d (ring_places k count p base a b d room is more) bytes code;
  file = λ k count p base at a b d bytes file image room is more code its holds.
      signature_loaded (ring_form_of k count p) base a d (ring_places k count p base a b d room is more) bytes code file
      image at its holds;
}
