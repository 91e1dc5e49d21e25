use Rattle.step_log.proofs.Texts.{log_lines, log_meanings}
use Rattle.step_log.proofs.theorems.printed_log_is_read.Goals as goal

pub returns-clause-lines : goal.returns-clause-lines
returns-clause-lines c = log_lines

pub returns-clause-meanings : goal.returns-clause-meanings
returns-clause-meanings c = log_meanings
