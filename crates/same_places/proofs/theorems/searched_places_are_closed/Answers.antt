use Rattle.same_places.proofs.Searched.{closed_by}
use Rattle.same_places.proofs.theorems.searched_places_are_closed.Goals as goal

pub returns : goal.returns
returns c = closed_by
