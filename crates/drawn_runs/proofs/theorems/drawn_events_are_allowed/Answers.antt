use Rattle.drawn_runs.proofs.Allowed.{drawn_is_allowed}
use Rattle.drawn_runs.proofs.theorems.drawn_events_are_allowed.Goals as goal

pub returns : goal.returns
returns c = drawn_is_allowed
