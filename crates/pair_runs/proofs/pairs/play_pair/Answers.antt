use Rattle.pair_runs.proofs.PlayingPairs.{begin}
use Rattle.pair_runs.proofs.pairs.play_pair.Goals as goal

pub lines-init : goal.lines-init
lines-init c = begin _ c.in_ok-pair.pair _ c.new-reader.result c.in_ok-pair.ensures c.new-reader.ensures
