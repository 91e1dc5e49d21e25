use Rattle.std.proofs.Common.{◌≡◌, length}
use Rattle.block_model.specs.Setting.{setting_of}
use Rattle.script_runs.specs.Playing.{IsPlaying}
use Rattle.traced_runs.specs.Tracing.{IsTraced}
use Rattle.traced_runs.proofs.tracing.play_traced.Given as goal

-- the lines so far were played, and their log is told
abbrev pub invariant-lines : goal.invariant-lines
invariant-lines l = record {
  setting : l.machine.setting ≡ setting_of l.fn.image l.fn.limits;
  playing : IsPlaying l.fn.script l.machine l.reader;
  told : IsTraced l.fn.span l.machine l.followed l.text.items;
}

abbrev pub decreases-lines : goal.decreases-lines
decreases-lines l = length l.reader.left
