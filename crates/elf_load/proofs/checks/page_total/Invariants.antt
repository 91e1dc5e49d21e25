use Rattle.std.proofs.Common.{◌≡◌, ◌≤◌, ◌*◌, ◌^◌, take, sum_by}
use Rattle.elf_load.specs.Fields.{page_count}
use Rattle.elf_load.proofs.checks.page_total.Given as goal

abbrev pub invariant-loop-header : goal.invariant-loop-header
invariant-loop-header l = (l.total ≡ sum_by page_count (take l.header-index l.headers)) × (l.total ≤ 2 ^ 54 * l.header-index)
