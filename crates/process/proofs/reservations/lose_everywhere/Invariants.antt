-- So far the harts before this one have lost what was written, and the others are as they were.
use Rattle.process.proofs.Common.{◌≡◌, ◌++◌, map, take, drop, lost_by_all}
use Rattle.process.proofs.reservations.lose_everywhere.Given as goal

abbrev pub invariant-loop-state : goal.invariant-loop-state
invariant-loop-state l = l.harts ≡ map (lost_by_all l.writes) (take l.state-index l.fn.harts) ++ drop l.state-index l.fn.harts
