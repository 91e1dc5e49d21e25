use Rattle.std.proofs.Common.{◌≡◌, ◌++◌, map, take, drop}
use Rattle.same_places.specs.Resting.{rested_hart}
use Rattle.same_places.proofs.making.rest_all.Given as goal

-- the harts so far have no credit, and the others are as they were
abbrev pub invariant-loop-hart : goal.invariant-loop-hart
invariant-loop-hart l = l.harts ≡ map rested_hart (take l.hart-index l.fn.harts) ++ drop l.hart-index l.fn.harts
