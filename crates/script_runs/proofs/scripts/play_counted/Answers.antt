use Rattle.std.proofs.Common.{ap}
use Rattle.block_model.specs.Setting.{Seen}
use Rattle.script_runs.proofs.Playing.{playing-start}
use Rattle.script_runs.proofs.scripts.play_counted.Goals as goal

pub lines-init : goal.lines-init
lines-init c =
    let booted = c.in_ok-machine.ensures in
    let start = playing-start _ c.in_ok-machine.machine _ _ c.new-reader.result booted c.new-reader.ensures in
    record {
      setting = start.0;
      playing = start.1;
      counted = c.in_ok-counter.ensures c.in_ok-machine.machine (ap (λ (m : Seen). m.setting.limits.harts) booted) (ap (λ (m : Seen). m.log) booted);
    }
