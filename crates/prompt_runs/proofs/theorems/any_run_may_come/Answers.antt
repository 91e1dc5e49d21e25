use Rattle.prompt_runs.proofs.InTime.{any_spoken}
use Rattle.prompt_runs.proofs.theorems.any_run_may_come.Goals as goal

pub returns : goal.returns
returns c = any_spoken
