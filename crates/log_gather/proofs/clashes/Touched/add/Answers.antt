use Rattle.std.proofs.Common.{refl}
use Rattle.log_gather.proofs.TouchedBytes.{touched_by_mark}
use Rattle.log_gather.proofs.clashes.Touched.add.Goals as goal

pub returns : goal.returns
returns c =
    touched_by_mark _ _ _ _ _ _ _ _ _ _ _ c.in_ok-add_looked_at.ensures c.in_ok-add_range.ensures c.in_ok-add_range-2.ensures c.in_ok-add_range-3.ensures refl
    c.access-access.ensures c.looked_at.ensures c.held.ensures refl refl
