use Rattle.std.proofs.Common.{◌-◌}
use Rattle.page_map.specs.Map.{permission_in}
use Rattle.page_map.proofs.Runs.{NoHoleBefore}
use Rattle.page_map.proofs.map.PageMap.hole_from.Given as goal

-- the pages fit nowhere before
abbrev pub invariant-loop-first : goal.invariant-loop-first
invariant-loop-first l = NoHoleBefore (permission_in l.self) l.count l.first

abbrev pub decreases-loop-first : goal.decreases-loop-first
decreases-loop-first l = 67108864 - l.first
