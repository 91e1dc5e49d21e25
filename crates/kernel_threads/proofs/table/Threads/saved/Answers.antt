use Rattle.kernel_threads.proofs.Opened.{rising}
use Rattle.kernel_threads.proofs.table.Threads.saved.Goals as goal

pub saved_of-requires : goal.saved_of-requires
saved_of-requires c = rising c.self.inside.slots.value c.deref.result.now c.self.inside.given c.deref.ensures c.self.invariant.table
