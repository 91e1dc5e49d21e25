use Rattle.block_model.specs.Setting.{setting_of}
use Rattle.std.proofs.Common.{◌≡◌, length}
use Rattle.script_runs.specs.Playing.{IsPlaying}
use Rattle.script_runs.proofs.scripts.play.Given as goal

abbrev pub invariant-lines : goal.invariant-lines
invariant-lines l = (l.machine.setting ≡ setting_of l.fn.image l.fn.limits)
    × IsPlaying l.fn.script l.machine l.reader

abbrev pub decreases-lines : goal.decreases-lines
decreases-lines l = length l.reader.left
