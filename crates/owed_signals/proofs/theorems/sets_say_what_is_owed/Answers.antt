use Rattle.owed_signals.proofs.OwedSets.{owed_is}
use Rattle.owed_signals.proofs.theorems.sets_say_what_is_owed.Goals as goal

pub returns : goal.returns
returns c = owed_is
