use Rattle.std.proofs.Common.{◌-◌}
use Rattle.elf_load.specs.Fields.{first_page}
use Rattle.elf_load.specs.Paging.{AppendsPages}
use Rattle.elf_load.proofs.paging.push_segment.Given as goal

abbrev pub invariant-loop-number : goal.invariant-loop-number
invariant-loop-number l = AppendsPages l.file l.header (l.number - first_page l.header) l.initial.pages.items l.pages.items
