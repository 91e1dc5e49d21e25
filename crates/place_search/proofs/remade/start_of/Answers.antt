use Rattle.block_model.specs.Setting.{setting_of}
use Rattle.place_search.proofs.Starts.{start_stands}
use Rattle.place_search.proofs.remade.start_of.Goals as goal

pub returns : goal.returns
returns c = start_stands (setting_of c.args.image.now c.args.limits) c.in_ok-pages.field-0 c.in_ok-pages.ensures.tied
