use Rattle.std.proofs.Common.{◌-◌, ◌+◌}
use Rattle.page_map.specs.Map.{permission_in}
use Rattle.page_map.proofs.Runs.{NoCodeBefore}
use Rattle.page_map.proofs.map.PageMap.is_without_code.Given as goal

-- no page before can be executed
abbrev pub invariant-loop-number : goal.invariant-loop-number
invariant-loop-number l = NoCodeBefore (permission_in l.self) l.first l.count l.from

abbrev pub decreases-loop-number : goal.decreases-loop-number
decreases-loop-number l = l.first + l.count - l.from
