use Rattle.std.proofs.Common.{◌-◌}
use Rattle.page_map.specs.Layout.{IsFilled}
use Rattle.page_map.proofs.table.PageTable.first_free.Given as goal

-- each mapping page before has a place
abbrev pub invariant-loop-page : goal.invariant-loop-page
invariant-loop-page l = IsFilled l.self l.page

abbrev pub decreases-loop-page : goal.decreases-loop-page
decreases-loop-page l = 67108864 - l.page
