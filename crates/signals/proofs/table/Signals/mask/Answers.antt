use Rattle.mach_types.specs.Kernel.Signals.{mask_if}
use Rattle.signals.proofs.Kept.{given_mask, is_mask_of, lists, mapped, same_threads}
use Rattle.signals.proofs.Quiet.{kept_mask}
use Rattle.signals.proofs.StaysWhole.{with_mask-holds}
use Rattle.signals.proofs.table.Signals.mask.Goals as goal

pub invariant_of-self : goal.invariant_of-self
invariant_of-self c =
    let own = c.self.inside in
    let mask = c.in-Some.new in
    let later = mapped own.threads (mask_if c.args.tid.0 mask) c.set_mask.new.threads cc in
    let is_mask = is_mask_of mask _ (given_mask _ mask _ c.in-Some.ensures) in
    let g = lists own.actions own.threads.items in
    let masked = with_mask-holds c.args.tid.0 mask g c.self.invariant.signalling is_mask in
    same_threads _ own.actions _ _ later (kept_mask _ c.args.tid.0 mask own.actions g c.self.invariant masked)
