use Rattle.output_laws.proofs.RoundRuns.{one_log, rounds_are_chosen}
use Rattle.output_laws.proofs.theorems.rounds_make_one_log.Goals as goal

pub returns-clause-chosen : goal.returns-clause-chosen
returns-clause-chosen c = rounds_are_chosen

pub returns-clause-one : goal.returns-clause-one
returns-clause-one c = one_log
