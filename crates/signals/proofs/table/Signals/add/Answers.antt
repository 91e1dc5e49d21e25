use Rattle.std.proofs.Common.{◌≡◌, ◌<◌, false, length, ◌++◌, ◌∷◌, [], ap, ◌∙◌, sym, subst}
use Rattle.mach_types.specs.Kernel.Signals.{Signalling, is_held, mask_of}
use Rattle.mach_types.specs.declared.signal_words.ThreadSignals.{ThreadSignals}
use Rattle.signals.proofs.Kept.{lists, same_threads}
use Rattle.signals.proofs.Quiet.{kept_entry}
use Rattle.signals.proofs.StaysWhole.{entry-holds, mask_of-is_mask}
use Rattle.signals.specs.Holding.{IsMask}
use Rattle.signals.proofs.table.Signals.add.Goals as goal

pub invariant_of-self : goal.invariant_of-self
invariant_of-self c =
    let own = c.self.inside in
    let g = lists own.actions own.threads.items in
    let not_held = subst (λ (s : Signalling). is_held c.args.tid.0 s ≡ false) (sym c.self.view_is) c.requires.not_held in
    let room = subst (λ (s : Signalling). length s.threads < 64) (sym c.self.view_is) c.requires.room in
    let parents = ap (λ (s : Signalling). mask_of c.args.parent.0 s) c.self.view_is ∙ sym c.mask_of-mask.ensures in
    let is_mask = subst IsMask parents (mask_of-is_mask c.args.parent.0 g c.self.invariant.signalling) in
    let held = entry-holds c.args.tid.0 c.mask_of-mask.result g c.self.invariant.signalling is_mask not_held room in
    same_threads _ own.actions _ _ (c.push.ensures.items ∙ ap (λ (th : ThreadSignals). own.threads.items ++ th ∷ []) c.new_entry.ensures)
    (kept_entry _ c.args.tid.0 c.mask_of-mask.result g c.self.invariant held)
