use Rattle.settled_places.proofs.RunEnds.{all_end}
use Rattle.settled_places.proofs.endings.each_run_can_end.Goals as goal

pub returns : goal.returns
returns c = λ s signals threads private logs edges log found are each. all_end s signals threads private logs found edges are each log
