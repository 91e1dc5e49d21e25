use Rattle.guest_programs.proofs.Exact.{code_held}
use Rattle.guest_programs.proofs.theorems.made_files_hold_their_code.Goals as goal

pub returns : goal.returns
returns c name n file elf = code_held name n file elf
