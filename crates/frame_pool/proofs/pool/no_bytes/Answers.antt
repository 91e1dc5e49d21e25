use Rattle.std.proofs.Common.{refl}
use Rattle.frame_pool.specs.Pool.{fresh}
use Rattle.frame_pool.proofs.pool.no_bytes.Goals as goal

pub returns : goal.returns
unfolding fresh
returns c = refl
