-- a drawn run on its way from its start, in which what is counted is so far; each event leaves one step less
use Rattle.std.proofs.Common.{◌≡◌, ◌-◌, length}
use Rattle.drawn_machine.specs.OnTheWay.{IsOnItsWay}
use Rattle.drawn_machine.specs.Overtaken.{stores_in}
use Rattle.drawn_machine.proofs.Inside.{IsCounted}
use Rattle.drawn_machine.proofs.Waiting.{IsTracked}
use Rattle.drawn_machine.proofs.drawn_run.DrawnRun.go.Given as goal

abbrev pub invariant-events : goal.invariant-events
invariant-events l = record {
  setting : l.self.machine.setting ≡ l.fn.self.machine.setting;
  way : IsOnItsWay l.manner l.self.machine l.drawing;
  inside : IsCounted l.self.machine l.self.left_inside;
  waits : IsTracked l.self.machine l.waits.clocks l.waits.counts;
  stores : l.self.stores ≡ stores_in l.self.machine;
}

abbrev pub decreases-events : goal.decreases-events
decreases-events l = l.self.machine.setting.limits.steps - length l.self.machine.log
