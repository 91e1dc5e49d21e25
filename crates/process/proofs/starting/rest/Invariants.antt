use Rattle.process.proofs.Common.{◌≡◌, ◌++◌, map, take, drop, idle_hart}
use Rattle.process.proofs.starting.rest.Given as goal

-- the harts so far are idle, and the others are as they were
abbrev pub invariant-loop-hart : goal.invariant-loop-hart
invariant-loop-hart l = l.harts ≡ map (λ _. idle_hart) (take l.hart-index l.fn.harts) ++ drop l.hart-index l.fn.harts
