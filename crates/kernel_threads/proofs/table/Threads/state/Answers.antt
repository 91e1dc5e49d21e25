use Rattle.kernel_threads.proofs.Opened.{rising}
use Rattle.kernel_threads.proofs.table.Threads.state.Goals as goal

pub state_of-requires : goal.state_of-requires
state_of-requires c = rising c.self.inside.slots.value c.deref.result.now c.self.inside.given c.deref.ensures c.self.invariant.table
