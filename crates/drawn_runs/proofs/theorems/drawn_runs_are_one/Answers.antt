use Rattle.drawn_runs.proofs.OneRun.{goes_on_alike}
use Rattle.drawn_runs.proofs.theorems.drawn_runs_are_one.Goals as goal

pub returns : goal.returns
returns c = goes_on_alike
