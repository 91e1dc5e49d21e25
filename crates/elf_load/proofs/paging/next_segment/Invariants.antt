use Rattle.elf_load.proofs.Choosing.{IsChosen}
use Rattle.elf_load.proofs.paging.next_segment.Given as goal

abbrev pub invariant-loop-header : goal.invariant-loop-header
invariant-loop-header l = IsChosen l.headers l.from l.header-index l.next
