use Rattle.std.proofs.Common.{arith}
use Rattle.mach_types.specs.Kernel.Signals.{without_signal}
use Rattle.signals.proofs.Entries.{one_more}
use Rattle.signals.proofs.threads.drop_signal.Goals as goal

pub loop-entry-preserved : goal.loop-entry-preserved
loop-entry-preserved c =
    one_more (without_signal c.args.sig) c.args.threads.now c.loop-entry.threads c.loop-entry.entry-index
    c.without_signal.result (omega arith) (omega arith) c.loop-entry.invariant c.without_signal.ensures
