use Rattle.draw_policies.proofs.Allowed.{turn-comes}
use Rattle.draw_policies.proofs.theorems.turns_come.Goals as goal

pub returns : goal.returns
returns c = turn-comes
