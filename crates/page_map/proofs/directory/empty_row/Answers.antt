use Rattle.std.proofs.Common.{refl}
use Rattle.page_map.specs.Layout.{empty_row}
use Rattle.page_map.proofs.directory.empty_row.Goals as goal

pub returns : goal.returns
unfolding empty_row
returns c = refl
