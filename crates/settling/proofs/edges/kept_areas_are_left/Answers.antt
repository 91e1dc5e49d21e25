use Rattle.settling.proofs.Kept.{leaves}
use Rattle.settling.proofs.edges.kept_areas_are_left.Goals as goal

pub returns : goal.returns
returns c = leaves
