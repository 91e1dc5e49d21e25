use Rattle.std.proofs.Common.{arith}
use Rattle.mach_types.specs.Kernel.Signals.{mask_if}
use Rattle.signals.proofs.Entries.{one_more}
use Rattle.signals.proofs.threads.set_mask.Goals as goal

pub loop-entry-preserved : goal.loop-entry-preserved
loop-entry-preserved c =
    one_more (mask_if c.args.tid c.args.mask) c.args.threads.now c.loop-entry.threads c.loop-entry.entry-index
    c.masked.result (omega arith) (omega arith) c.loop-entry.invariant c.masked.ensures
