-- All bytes can be read.
use Rattle.sys_calls.proofs.Common.{◌∙◌, is_some, byte_in}
use Rattle.sys_calls.proofs.LimitWords.{limit_bytes}
use Rattle.sys_calls.proofs.limits.can_read_limits.Goals as goal

pub returns : goal.returns
returns c = c.readable.ensures ∙ limit_bytes (λ a. is_some (byte_in c.args.pages.now a)) c.args.at
