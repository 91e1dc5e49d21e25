-- All bytes can be read.
use Rattle.sys_calls.proofs.Common.{◌∙◌}
use Rattle.sys_calls.proofs.ActionWords.{readable_words}
use Rattle.sys_calls.proofs.signal_calls.can_read_action.Goals as goal

pub returns : goal.returns
returns c = c.readable.ensures ∙ readable_words c.args.pages.now c.args.at
