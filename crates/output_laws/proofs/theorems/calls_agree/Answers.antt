use Rattle.output_laws.proofs.Agreement.{one_status, one_text}
use Rattle.output_laws.proofs.theorems.calls_agree.Goals as goal

pub returns-clause-status : goal.returns-clause-status
returns-clause-status c = one_status

pub returns-clause-text : goal.returns-clause-text
returns-clause-text c = one_text
