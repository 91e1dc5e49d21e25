use Rattle.settled_places.proofs.RunEnds.{bounded, endless}
use Rattle.settled_places.proofs.endings.walks_tell_how_much_is_executed.Goals as goal

pub returns-clause-bounded : goal.returns-clause-bounded
returns-clause-bounded c = λ s signals threads private logs edges busy rank found are are_busy ranks. bounded s signals threads private logs found edges are busy are_busy rank ranks

pub returns-clause-endless : goal.returns-clause-endless
returns-clause-endless c = λ s signals threads private logs edges busy found are are_busy round. endless s signals threads private logs found edges are busy are_busy round
