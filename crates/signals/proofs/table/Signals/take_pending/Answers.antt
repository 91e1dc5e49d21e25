use Rattle.std.proofs.Common.{◌∙◌, ap}
use Rattle.mach_types.specs.Kernel.Signals.{take_if}
use Rattle.signals.proofs.Kept.{lists, mapped, same_threads}
use Rattle.signals.proofs.Quiet.{any_pending, kept_anew}
use Rattle.signals.proofs.StaysWhole.{without_pending-holds}
use Rattle.signals.proofs.table.Signals.take_pending.Goals as goal

pub invariant_of-self : goal.invariant_of-self
invariant_of-self c =
    let own = c.self.inside in
    let later = mapped own.threads (take_if c.args.tid.0 c.args.sig) c.take_pending.new.threads cc in
    let taken = without_pending-holds c.args.tid.0 c.args.sig (lists own.actions own.threads.items) c.self.invariant.signalling in
    let anew = c.is_any_pending-self-inside.ensures ∙ ap any_pending (c.deref.ensures.0 ∙ later) in
    same_threads _ own.actions _ _ later (kept_anew _ _ anew taken)
