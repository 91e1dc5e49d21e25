use Rattle.machine_core.proofs.Common.{stretch_of}
use Rattle.machine_core.proofs.StretchWork.{IsHalfWorked}
use Rattle.machine_core.proofs.stretches.work.Given as goal

abbrev pub invariant-loop : goal.invariant-loop
invariant-loop l = IsHalfWorked l.code (stretch_of l.fn.stretch) (stretch_of l.stretch) l.counter
