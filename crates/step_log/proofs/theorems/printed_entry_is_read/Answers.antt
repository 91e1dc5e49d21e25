use Rattle.step_log.proofs.Texts.{entry_is_read}
use Rattle.step_log.proofs.theorems.printed_entry_is_read.Goals as goal

pub returns : goal.returns
returns c = entry_is_read
