use Rattle.rv_inst.proofs.Laws.{local-rows}
use Rattle.rv_inst.proofs.theorems.local_rows_set_registers.Goals as goal

pub returns : goal.returns
returns c = local-rows
