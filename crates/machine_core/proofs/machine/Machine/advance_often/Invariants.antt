use Rattle.machine_core.proofs.Common.{◌≡◌, IsChosen, IsBlockRun}
use Rattle.machine_core.proofs.StretchLending.{IsOnItsWay}
use Rattle.machine_core.proofs.machine.Machine.advance_often.Given as goal

-- the log is on its way to so many entries more
abbrev pub invariant-loop : goal.invariant-loop
invariant-loop l =
    (l.self.setting ≡ l.fn.self.setting) × (l.self.seed ≡ l.fn.self.seed)
    × IsChosen l.self.setting l.self.seed l.self.log × IsBlockRun l.self.setting l.self.log
    × IsOnItsWay l.fn.self.setting l.fn.self.seed l.hart.0 l.fn.self.log l.self.log l.counter l.count
