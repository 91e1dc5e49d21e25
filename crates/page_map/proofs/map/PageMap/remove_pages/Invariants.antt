use Rattle.std.proofs.Common.{◌-◌, ◌+◌}
use Rattle.page_map.proofs.Runs.{IsRemovedTo}
use Rattle.page_map.proofs.map.PageMap.remove_pages.Given as goal

-- the pages before are removed
abbrev pub invariant-loop-number : goal.invariant-loop-number
invariant-loop-number l = IsRemovedTo l.initial.self l.self l.first l.count l.from

abbrev pub decreases-loop-number : goal.decreases-loop-number
decreases-loop-number l = l.first + l.count - l.from
