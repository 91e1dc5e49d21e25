use Rattle.std.proofs.Common.{refl}
use Rattle.frame_pool.specs.Pool.{fresh}
use Rattle.page_map.proofs.boot.zeros.Goals as goal

pub returns : goal.returns
unfolding fresh
returns c = refl
