use Rattle.std.proofs.Common.{◌≡◌, length}
use Rattle.shared_procs.specs.Pairs.{pair_setting_of}
use Rattle.pair_runs.specs.Playing.{IsPlayingPair}
use Rattle.pair_runs.proofs.pairs.play_pair.Given as goal

abbrev pub invariant-lines : goal.invariant-lines
invariant-lines l = (l.pair.setting ≡ pair_setting_of l.fn.first l.fn.second l.fn.limits)
    × IsPlayingPair l.fn.script l.pair l.reader

abbrev pub decreases-lines : goal.decreases-lines
decreases-lines l = length l.reader.left
