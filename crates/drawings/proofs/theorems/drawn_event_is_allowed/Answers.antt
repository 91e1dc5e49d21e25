use Rattle.drawings.proofs.Draws.{draw-allowed}
use Rattle.drawings.proofs.theorems.drawn_event_is_allowed.Goals as goal

pub returns : goal.returns
returns c = draw-allowed
