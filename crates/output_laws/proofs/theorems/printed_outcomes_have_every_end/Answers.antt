use Rattle.output_laws.proofs.PrintedEnds.{all_are_printed, each_end_is_printed, no_end_is_printed_twice}
use Rattle.output_laws.proofs.theorems.printed_outcomes_have_every_end.Goals as goal

pub returns-clause-all : goal.returns-clause-all
returns-clause-all c = all_are_printed

pub returns-clause-each : goal.returns-clause-each
returns-clause-each c = each_end_is_printed

pub returns-clause-once : goal.returns-clause-once
returns-clause-once c = no_end_is_printed_twice
