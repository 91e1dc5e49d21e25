use Rattle.std.proofs.Common.{ap, ◌∙◌, sym}
use Rattle.mach_types.specs.Kernel.Signals.{Signalling, next_for}
use Rattle.signals.proofs.Kept.{lists}
use Rattle.signals.proofs.Quiet.{next_for-quiet}
use Rattle.signals.proofs.table.Signals.next_for.Goals as goal

pub returns-then-not-self : goal.returns-then-not-self
returns-then-not-self c =
    let own = c.self.inside in
    let none = next_for-quiet c.args.tid.0 (lists own.actions own.threads.items) (c.self.invariant.quiet c.if-not-self.true) in
    sym (ap (λ (g : Signalling). next_for c.args.tid.0 g) (sym c.self.view_is) ∙ none)
