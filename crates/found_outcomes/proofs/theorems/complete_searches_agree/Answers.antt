use Rattle.found_outcomes.proofs.Agreement.{agree, agree_within}
use Rattle.found_outcomes.proofs.theorems.complete_searches_agree.Goals as goal

pub returns-clause-complete : goal.returns-clause-complete
returns-clause-complete c = agree

pub returns-clause-within : goal.returns-clause-within
returns-clause-within c = agree_within
