use Rattle.rv_inst.proofs.Laws.{pc-fits}
use Rattle.rv_inst.proofs.theorems.harts_go_on_in_words.Goals as goal

pub returns : goal.returns
returns c = pc-fits
