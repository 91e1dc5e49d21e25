use Rattle.guest_programs.proofs.Started.{starts}
use Rattle.guest_programs.proofs.theorems.made_files_start_their_programs.Goals as goal

pub returns : goal.returns
returns c name n file elf image limits is = starts name n file elf image is limits
