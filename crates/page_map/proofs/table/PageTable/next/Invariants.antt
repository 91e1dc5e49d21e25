use Rattle.std.proofs.Common.{◌-◌}
use Rattle.page_map.proofs.Tables.{NoneBefore}
use Rattle.page_map.proofs.table.PageTable.next.Given as goal

-- no page before has a place
abbrev pub invariant-loop-page : goal.invariant-loop-page
invariant-loop-page l = NoneBefore l.self l.from l.page

abbrev pub decreases-loop-page : goal.decreases-loop-page
decreases-loop-page l = l.end - l.page
