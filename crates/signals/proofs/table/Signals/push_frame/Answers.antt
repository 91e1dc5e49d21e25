use Rattle.std.proofs.Common.{ℕ, Bool, Option, ap, ◌∙◌}
use Rattle.mach_types.specs.Kernel.SignalFrames.{after_frame, frame_writes}
use Rattle.mach_types.specs.Kernel.Signals.{action_of, mask_if, mask_of, with_mask}
use Rattle.mach_types.specs.declared.signal_words.Action.{Action}
use Rattle.signals.proofs.Kept.{is_handler_mask, lists, mapped, same_lists}
use Rattle.signals.proofs.Quiet.{kept_mask}
use Rattle.signals.proofs.StaysWhole.{set_action-holds, with_mask-holds}
use Rattle.signals.proofs.table.Signals.push_frame.Goals as goal

pub returns-clause-bytes : goal.returns-clause-bytes
returns-clause-bytes g c a =
    let byte = g.M.UserMem.byte c.args.mem.now in
    let s = c.args.sig in
    let t = c.args.tid.0 in
    let its = c.args.self.now in
    let saved = c.args.saved.now in
    let written : Action → ℕ → Bool → Option ℕ = λ action mask made. after_frame made (frame_writes s action c.args.fault saved mask) byte a in
    c.write.ensures.bytes a
    ∙ ap (λ action. written action c.mask_of-mask.result c.write.result) c.action-action.ensures
    ∙ ap (λ mask. written (action_of s its) mask c.write.result) c.mask_of-mask.ensures
    ∙ ap (written (action_of s its) (mask_of t its)) c.if-not-write.false

pub invariant_of-self : goal.invariant_of-self
invariant_of-self g c =
    let own = c.self.inside in
    let mask = c.handler_mask.result in
    let later = mapped own.threads (mask_if c.args.tid.0 mask) c.set_mask.new.threads cc in
    let g = lists own.actions own.threads.items in
    let masked = with_mask-holds c.args.tid.0 mask g c.self.invariant.signalling (is_handler_mask mask c.args.sig c.mask_of-mask.result c.action-action.result c.handler_mask.ensures) in
    let set = set_action-holds c.args.sig c.entered_action.result (with_mask c.args.tid.0 mask g) masked in
    same_lists _ _ _ _ _ c.set_action.ensures later (kept_mask _ c.args.tid.0 mask _ g c.self.invariant set)
