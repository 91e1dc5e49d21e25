use Rattle.prompt_runs.proofs.StepLimits.{spoken_limited, spoken_unlimited}
use Rattle.prompt_runs.proofs.theorems.no_step_limit_is_read.Goals as goal

pub returns-clause-limited : goal.returns-clause-limited
returns-clause-limited c = spoken_limited

pub returns-clause-back : goal.returns-clause-back
returns-clause-back c = spoken_unlimited
