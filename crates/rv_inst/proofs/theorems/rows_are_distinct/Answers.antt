use Rattle.rv_inst.proofs.Laws.{rows-distinct}
use Rattle.rv_inst.proofs.theorems.rows_are_distinct.Goals as goal

pub returns : goal.returns
returns c = rows-distinct
