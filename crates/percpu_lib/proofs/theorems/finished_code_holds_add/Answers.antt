use Rattle.percpu_lib.specs.Kinds.{adds}
use Rattle.percpu_lib.proofs.KindWords.{kind_held}
use Rattle.percpu_lib.proofs.theorems.finished_code_holds_add.Goals as goal

pub returns : goal.returns
returns c p base k w a b d bytes i room is more code at word =
    (kind_held adds p base a b d room is more).words bytes k i w code at word
