use Rattle.output_laws.proofs.OneOutput.{one_output, good_files}
use Rattle.output_laws.proofs.theorems.told_files_have_one_output.Goals as goal

pub returns-clause-one : goal.returns-clause-one
returns-clause-one c = one_output

pub returns-clause-good : goal.returns-clause-good
returns-clause-good c = good_files
