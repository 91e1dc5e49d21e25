use Rattle.block_model.proofs.theorems.loaded_programs_are_laid_out.Goals as goal
use Rattle.block_model.proofs.Images.{loaded_is_laid_out}

pub returns : goal.returns
returns c = λ frames image bootable. loaded_is_laid_out frames image bootable
