use Rattle.block_model.specs.Setting.{setting_of}
use Rattle.block_view.specs.Counters.{IsCountOf, kept_counts}
use Rattle.std.proofs.Common.{◌≡◌, length}
use Rattle.script_runs.specs.Playing.{IsPlaying}
use Rattle.script_runs.proofs.scripts.play_counted.Given as goal

-- the lines so far were played, and the acts of their log are counted
abbrev pub invariant-lines : goal.invariant-lines
invariant-lines l = record {
  setting : l.machine.setting ≡ setting_of l.fn.image l.fn.limits;
  playing : IsPlaying l.fn.script l.machine l.reader;
  counted : IsCountOf l.machine (kept_counts l.counter);
}

abbrev pub decreases-lines : goal.decreases-lines
decreases-lines l = length l.reader.left
