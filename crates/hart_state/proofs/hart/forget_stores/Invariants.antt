use Rattle.std.proofs.Common.{length}
use Rattle.hart_state.proofs.hart.forget_stores.Given as goal

-- one store fewer
abbrev pub decreases-stores : goal.decreases-stores
decreases-stores l = length l.buffer
