use Rattle.chooser.proofs.Credits.{pick-credit_executes}
use Rattle.chooser.proofs.theorems.only_execution_leaves_credit.Goals as goal

pub returns : goal.returns
returns c = pick-credit_executes
