use Rattle.std.proofs.Common.{refl}
use Rattle.page_map.specs.Layout.{empty_leaf}
use Rattle.page_map.proofs.table.empty_leaf.Goals as goal

pub returns : goal.returns
unfolding empty_leaf
returns c = refl
