use Rattle.percpu_lib.specs.Kinds.{adds}
use Rattle.percpu_lib.proofs.KindWords.{kind_held}
use Rattle.percpu_lib.proofs.theorems.files_hold_add.Goals as goal

pub returns : goal.returns
returns c p base at a b d bytes file image room is more code its holds =
    (kind_held adds p base a b d room is more).file bytes file image at code its holds
