use Rattle.std.proofs.Common.{length}
use Rattle.percpu_lib.specs.RingKinds.{ring_form_of}
use Rattle.percpu_lib.proofs.BoundLabels.{labels_of_range}
use Rattle.percpu_lib.proofs.RingHeld.{ring_places}
use Rattle.percpu_lib.proofs.ring_theorems.labels_of_rings_are_those_of_their_sequences.Goals as goal

pub returns : goal.returns
returns c = record {
  bound = λ k count p base a b d room is more. (ring_places k count p base a b d room is more).bound;
  placed = λ k count p base at a b d room is more.
      labels_of_range (ring_form_of k count p) base (length a.items) at d.labels
      (ring_places k count p base a b d room is more).bound;
}
