use Rattle.drawn_runs.proofs.Logs.{drawn_more, drawn_start}
use Rattle.drawn_runs.proofs.theorems.drawn_runs_go_on.Goals as goal

pub returns : goal.returns
returns c = record { start = drawn_start; more = drawn_more }
