use Rattle.std.proofs.Common.{true}
use Rattle.mach_types.specs.Kernel.Signals.{fault_if}
use Rattle.signals.proofs.Kept.{lists, mapped, same_threads}
use Rattle.signals.proofs.Quiet.{kept_pending}
use Rattle.signals.proofs.StaysWhole.{with_fault-holds}
use Rattle.signals.proofs.table.Signals.post_fault.Goals as goal

pub invariant_of-self : goal.invariant_of-self
invariant_of-self c =
    let own = c.self.inside in
    let later = mapped own.threads (fault_if c.args.tid.0 c.args.fault) c.post_fault.new.threads cc in
    let posted = with_fault-holds c.args.tid.0 c.args.fault (lists own.actions own.threads.items) c.self.invariant.signalling in
    same_threads true own.actions _ _ later (kept_pending _ posted)
