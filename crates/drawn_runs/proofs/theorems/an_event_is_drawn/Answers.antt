use Rattle.drawn_runs.proofs.Work.{drawn_where_open}
use Rattle.drawn_runs.proofs.theorems.an_event_is_drawn.Goals as goal

pub returns : goal.returns
returns c = drawn_where_open
