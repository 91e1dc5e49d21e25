use Rattle.std.proofs.Common.{rules}
use Rattle.log_gather.proofs.MarkedEvents.{added}
use Rattle.log_gather.proofs.marks.Details.add.Goals as goal

pub returns : goal.returns
returns c = added _ _ _ _ _ _ c.requires c.in_ok-mark.ensures (search rules)
