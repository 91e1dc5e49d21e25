use Rattle.drawings.proofs.Draws.{draw-ready}
use Rattle.drawings.proofs.theorems.drawing_goes_on.Goals as goal

pub returns : goal.returns
returns c = draw-ready
