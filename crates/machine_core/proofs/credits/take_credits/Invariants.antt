use Rattle.machine_core.proofs.Common.{◌≡◌, ◌++◌, map, take, uncredited, drop}
use Rattle.machine_core.proofs.credits.take_credits.Given as goal

-- the harts so far have no credit, and the others are as they were
abbrev pub invariant-loop-hart : goal.invariant-loop-hart
invariant-loop-hart l = l.harts ≡ map uncredited (take l.hart-index l.fn.harts) ++ drop l.hart-index l.fn.harts
