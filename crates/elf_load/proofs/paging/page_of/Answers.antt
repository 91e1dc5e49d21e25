use Rattle.elf_load.proofs.Filling.{slice_index-zeros}
use Rattle.elf_load.proofs.paging.page_of.Goals as goal

pub fill-requires-clause-zero : goal.fill-requires-clause-zero
fill-requires-clause-zero c = λ j. slice_index-zeros 4096 j
