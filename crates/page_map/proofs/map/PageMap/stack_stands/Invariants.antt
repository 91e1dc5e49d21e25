use Rattle.std.proofs.Common.{ℕ, ◌+◌, ◌-◌, ◌<◌}
use Rattle.page_map.specs.Starting.{StandsWith}
use Rattle.page_map.proofs.map.PageMap.stack_stands.Given as goal

-- so many of the lowest pages of the stack stand at their places
abbrev pub invariant-loop-k : goal.invariant-loop-k
invariant-loop-k l = (k : ℕ) → k < l.k → StandsWith l.self.mapped (l.mapped - 1 - k) (0x3FFFF00 + k) 6
