use Rattle.shared_procs.proofs.PairTargets.{about_others}
use Rattle.shared_procs.proofs.theorems.barriers_return_over_both.Goals as goal

pub returns-clause-about : goal.returns-clause-about
returns-clause-about c = about_others
