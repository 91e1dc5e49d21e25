use Rattle.std.proofs.Common.{arith}
use Rattle.mach_types.specs.Kernel.Signals.{post_if}
use Rattle.signals.proofs.Entries.{one_more}
use Rattle.signals.proofs.threads.post.Goals as goal

pub loop-entry-preserved : goal.loop-entry-preserved
loop-entry-preserved c =
    one_more (post_if c.args.tid c.args.sig) c.args.threads.now c.loop-entry.threads c.loop-entry.entry-index
    c.with_signal.result (omega arith) (omega arith) c.loop-entry.invariant c.with_signal.ensures
