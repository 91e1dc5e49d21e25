use Rattle.settled_places.proofs.RunEnds.{can_end, hopeless}
use Rattle.settled_places.proofs.endings.walks_tell_who_can_end.Goals as goal

pub returns-clause-can_end : goal.returns-clause-can_end
returns-clause-can_end c = λ s signals threads private logs edges k found are. can_end s signals threads private logs found edges are k

pub returns-clause-hopeless : goal.returns-clause-hopeless
returns-clause-hopeless c = λ s signals threads private logs edges among k found are trap. hopeless s signals threads private logs found edges are among trap k
