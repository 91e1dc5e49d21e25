use Rattle.process.proofs.Common.{◌≡◌, false, take, list_any, HartState, lies_outside}
use Rattle.process.proofs.exec_gate.waits_in_any.Given as goal

abbrev pub invariant-loop-state : goal.invariant-loop-state
invariant-loop-state l = list_any (λ (x : HartState). list_any (lies_outside l.pages l.kept) x.buffer) (take l.state-index l.harts) ≡ false
