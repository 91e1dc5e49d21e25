use Rattle.std.proofs.Common.{[], ◌∷◌}
use Rattle.shared_procs.proofs.Entered.{lost_shown}
use Rattle.shared_procs.proofs.entering.leave_one.Goals as goal

pub returns-clause-lost : goal.returns-clause-lost
returns-clause-lost c s y tied = lost_shown c.args.hart.0 (c.args.store ∷ []) c.args.other.now c.show.new.other c.show.ensures s y tied
