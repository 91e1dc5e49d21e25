use Rattle.block_model.proofs.theorems.file_has_one_setting.Goals as goal
use Rattle.block_model.proofs.Images.{one_setting}

pub returns : goal.returns
returns c = λ file a b limits one other. one_setting file a b limits one other
