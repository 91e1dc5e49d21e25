use Rattle.drawn_runs.proofs.PromptRuns.{drawn_prompt}
use Rattle.drawn_runs.proofs.theorems.drawn_runs_are_prompt.Goals as goal

pub returns : goal.returns
returns c = drawn_prompt
