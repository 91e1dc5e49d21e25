use Rattle.std.proofs.Common.{arith}
use Rattle.mach_types.specs.Kernel.Signals.{fault_if}
use Rattle.signals.proofs.Entries.{one_more}
use Rattle.signals.proofs.threads.post_fault.Goals as goal

pub loop-entry-preserved : goal.loop-entry-preserved
loop-entry-preserved c =
    one_more (fault_if c.args.tid c.args.fault) c.args.threads.now c.loop-entry.threads c.loop-entry.entry-index
    c.with_fault.result (omega arith) (omega arith) c.loop-entry.invariant c.with_fault.ensures
