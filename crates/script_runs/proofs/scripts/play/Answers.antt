use Rattle.script_runs.proofs.Playing.{playing-start}
use Rattle.script_runs.proofs.scripts.play.Goals as goal

pub lines-init : goal.lines-init
lines-init c = playing-start _ c.in_ok-machine.machine _ _ c.new-reader.result c.in_ok-machine.ensures
    c.new-reader.ensures
