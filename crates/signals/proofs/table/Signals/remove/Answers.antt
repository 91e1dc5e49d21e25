use Rattle.std.proofs.Common.{ap, ◌∙◌}
use Rattle.signals.proofs.Kept.{lists, same_threads}
use Rattle.signals.proofs.Quiet.{any_pending, kept_anew}
use Rattle.signals.proofs.StaysWhole.{forget-holds}
use Rattle.signals.proofs.table.Signals.remove.Goals as goal

pub invariant_of-self : goal.invariant_of-self
invariant_of-self c =
    let own = c.self.inside in
    let fewer = forget-holds c.args.tid.0 (lists own.actions own.threads.items) c.self.invariant.signalling in
    let anew = c.is_any_pending-self-inside.ensures ∙ ap any_pending (c.deref.ensures.0 ∙ c.remove.ensures) in
    same_threads _ own.actions _ _ c.remove.ensures (kept_anew _ _ anew fewer)
