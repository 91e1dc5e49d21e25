use Rattle.std.proofs.Common.{◌∙◌, ap}
use Rattle.mach_types.specs.Kernel.Signals.{without_signal}
use Rattle.signals.proofs.Kept.{lists, mapped, same_lists}
use Rattle.signals.proofs.Quiet.{any_pending, kept_anew}
use Rattle.signals.proofs.StaysWhole.{dropped-holds, set_action-holds}
use Rattle.signals.proofs.table.Signals.set_action.Goals as goal

pub invariant_of-self : goal.invariant_of-self
invariant_of-self c =
    let own = c.self.inside in
    let later = mapped own.threads (without_signal c.args.sig) c.drop_signal.new.threads cc in
    let set = set_action-holds c.args.sig c.args.new (lists own.actions own.threads.items) c.self.invariant.signalling in
    let anew = c.is_any_pending-self-inside.ensures ∙ ap any_pending (c.deref.ensures.0 ∙ later) in
    same_lists _ _ _ _ _ c.set_action.ensures later (kept_anew _ _ anew (dropped-holds c.args.sig _ set))
