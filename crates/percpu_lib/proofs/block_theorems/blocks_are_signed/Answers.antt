use Rattle.percpu_lib.specs.Kinds.{form_of}
use Rattle.percpu_lib.proofs.BoundLabels.{kind_places, signature_loaded, signature_word}
use Rattle.percpu_lib.proofs.block_theorems.blocks_are_signed.Goals as goal

pub returns : goal.returns
returns c = record {
  code = λ kind p base a b d bytes room is more code.
      signature_word (form_of kind p) base a d (kind_places kind p base a b d room is more) bytes code;
  file = λ kind p base at a b d bytes file image room is more code its holds.
      signature_loaded (form_of kind p) base a d (kind_places kind p base a b d room is more) bytes code file image at
      its holds;
}
