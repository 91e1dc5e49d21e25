use Rattle.std.proofs.Common.{◌-◌}
use Rattle.elf_load.proofs.Building.{IsBuilt}
use Rattle.elf_load.proofs.paging.build_pages.Given as goal

abbrev pub invariant-loop-header : goal.invariant-loop-header
invariant-loop-header l = IsBuilt l.file l.headers l.from l.pages.items

abbrev pub decreases-loop-header : goal.decreases-loop-header
decreases-loop-header l = 33554432 - l.from
