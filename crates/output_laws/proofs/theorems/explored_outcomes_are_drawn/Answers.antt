use Rattle.output_laws.proofs.DrawnOutputs.{drawn_of_each, only_drawn}
use Rattle.output_laws.proofs.theorems.explored_outcomes_are_drawn.Goals as goal

pub returns-clause-some : goal.returns-clause-some
returns-clause-some c files later program written settings policies same output k d lt chosen =
    let its = drawn_of_each files later program written settings policies same output k d lt chosen in
    (its.written, its.output, its.outcome)

pub returns-clause-each : goal.returns-clause-each
returns-clause-each c = only_drawn
