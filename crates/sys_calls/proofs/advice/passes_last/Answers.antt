-- Pages are counted up to the last address.
use Rattle.sys_calls.proofs.AdviceCalls.{past_last}
use Rattle.sys_calls.proofs.advice.passes_last.Goals as goal

pub returns : goal.returns
returns c = past_last c.args.at c.args.len c.pages_of.result c.pages_of.ensures
