use Rattle.kernel_threads.proofs.Opened.{rising}
use Rattle.kernel_threads.proofs.table.Threads.clear_at.Goals as goal

pub clear_of-requires : goal.clear_of-requires
clear_of-requires c = rising c.self.inside.slots.value c.deref.result.now c.self.inside.given c.deref.ensures c.self.invariant.table
