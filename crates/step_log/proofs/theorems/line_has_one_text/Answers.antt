use Rattle.step_log.proofs.Texts.{text_is_read, only_text, said_is_line}
use Rattle.step_log.proofs.theorems.line_has_one_text.Goals as goal

pub returns-clause-read : goal.returns-clause-read
returns-clause-read c = text_is_read

pub returns-clause-only : goal.returns-clause-only
returns-clause-only c = only_text

pub returns-clause-said : goal.returns-clause-said
returns-clause-said c = said_is_line
