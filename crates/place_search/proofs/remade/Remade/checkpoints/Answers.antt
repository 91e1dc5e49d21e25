use Rattle.block_model.specs.Setting.{setting_of}
use Rattle.place_search.proofs.remade.Remade.checkpoints.Goals as goal

pub returns : goal.returns
returns c = c.new.ensures (setting_of c.args.image.now c.args.limits)
