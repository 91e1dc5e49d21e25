use Rattle.percpu_lib.proofs.KindWords.{kind_held}
use Rattle.percpu_lib.proofs.block_theorems.finished_code_holds_block.Goals as goal

pub returns : goal.returns
returns c kind p base k w a b d bytes i room is more code at word =
    (kind_held kind p base a b d room is more).words bytes k i w code at word
