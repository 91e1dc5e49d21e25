use Rattle.drawings.proofs.Draws.{draw-comes}
use Rattle.drawings.proofs.theorems.an_event_is_drawn.Goals as goal

pub returns : goal.returns
returns c = draw-comes
