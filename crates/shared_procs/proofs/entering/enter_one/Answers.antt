use Rattle.std.proofs.Common.{◌∙◌}
use Rattle.shared_procs.proofs.entering.enter_one.Goals as goal

pub returns : goal.returns
returns c = c.set_in.ensures.entered (c.set_in.ensures.answer ∙ c.requires.storable)
