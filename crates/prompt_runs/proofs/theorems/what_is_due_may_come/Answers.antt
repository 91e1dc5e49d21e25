use Rattle.prompt_runs.proofs.Due.{due_may_come}
use Rattle.prompt_runs.proofs.theorems.what_is_due_may_come.Goals as goal

pub returns : goal.returns
returns c = due_may_come
