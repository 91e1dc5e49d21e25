use Rattle.draw_policies.proofs.Allowed.{turn-allowed}
use Rattle.draw_policies.proofs.theorems.turn_is_allowed.Goals as goal

pub returns : goal.returns
returns c = turn-allowed
