use Rattle.kernel_threads.specs.Table.{hears_saved}
use Rattle.kernel_threads.proofs.Opened.{longest_waits}
use Rattle.kernel_threads.proofs.table.Threads.wake_one.Goals as goal

pub wake-requires : goal.wake-requires
wake-requires c = longest_waits c.args.at (hears_saved c.args.mask c.args.self.now.saved) c.in_ok-number.number c.args.self.now.threads c.in_ok-number.ensures.longest
