use Rattle.rv_inst.proofs.Laws.{plain-waits, entered-at, writes-allowed}
use Rattle.rv_inst.proofs.theorems.writes_are_asked.Goals as goal

pub returns : goal.returns
returns c = record { waiting = plain-waits; entered = entered-at; allowed = writes-allowed }
