use Rattle.percpu_lib.proofs.KindWords.{kind_held}
use Rattle.percpu_lib.proofs.block_theorems.files_hold_block.Goals as goal

pub returns : goal.returns
returns c kind p base at a b d bytes file image room is more code its holds =
    (kind_held kind p base a b d room is more).file bytes file image at code its holds
