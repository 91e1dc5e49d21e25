-- So far no thread holds it.
use Rattle.process.proofs.Common.{◌≡◌, false, take, list_any, holds}
use Rattle.process.proofs.run.is_held.Given as goal

abbrev pub invariant-loop-state : goal.invariant-loop-state
invariant-loop-state l = list_any (holds l.id) (take l.state-index l.harts) ≡ false
