use Rattle.std.proofs.Common.{length}
use Rattle.percpu_lib.specs.Kinds.{form_of}
use Rattle.percpu_lib.proofs.BoundLabels.{kind_places, labels_of_range}
use Rattle.percpu_lib.proofs.block_theorems.labels_of_blocks_are_those_of_their_sequences.Goals as goal

pub returns : goal.returns
returns c = record {
  bound = λ kind p base a b d room is more. (kind_places kind p base a b d room is more).bound;
  placed = λ kind p base at a b d room is more.
      labels_of_range (form_of kind p) base (length a.items) at d.labels (kind_places kind p base a b d room is more).bound;
}
