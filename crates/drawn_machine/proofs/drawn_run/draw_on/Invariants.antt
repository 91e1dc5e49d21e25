-- a drawn run on its way, behind the entries that the machine had; each event leaves one step less
use Rattle.std.proofs.Common.{◌-◌, length}
use Rattle.drawn_machine.specs.OnTheWay.{IsOnItsWay}
use Rattle.drawn_machine.proofs.DrawnSteps.{IsBehind}
use Rattle.drawn_machine.proofs.drawn_run.draw_on.Given as goal

abbrev pub invariant-events : goal.invariant-events
invariant-events l = record {
  behind : IsBehind l.fn.machine.setting l.fn.machine.log l.machine;
  way : IsOnItsWay l.manner l.machine l.drawing;
}

abbrev pub decreases-events : goal.decreases-events
decreases-events l = l.machine.setting.limits.steps - length l.machine.log
