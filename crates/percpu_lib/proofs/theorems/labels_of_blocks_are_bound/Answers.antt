use Rattle.percpu_lib.proofs.Labels.{labelled}
use Rattle.percpu_lib.proofs.theorems.labels_of_blocks_are_bound.Goals as goal

pub returns : goal.returns
returns c p base shift first inside aborted a b is room none_first none_inside none_aborted =
    labelled p base shift first inside aborted a b is room none_first none_inside none_aborted
