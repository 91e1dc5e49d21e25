use Rattle.elf_make.proofs.Placing.{places-lowest}
use Rattle.elf_make.proofs.theorems.parts_stand_at_the_lowest_places.Goals as goal

pub returns : goal.returns
returns c = places-lowest
