use Rattle.std.specs.Prelude.{[], ◌∷◌}
use Rattle.prompt_runs.proofs.InTime.{spoken_more}
use Rattle.prompt_runs.proofs.theorems.prompt_runs_go_on.Goals as goal

pub returns-clause-start : goal.returns-clause-start
returns-clause-start c = λ s signals. tt

pub returns-clause-more : goal.returns-clause-more
returns-clause-more c = λ s signals log e first in_time. spoken_more signals s log (e ∷ []) first (in_time, tt)
