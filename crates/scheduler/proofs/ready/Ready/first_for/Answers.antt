use Rattle.std.proofs.Common.{ℕ, List, find, ◌∙◌, ap, sym}
use Rattle.std.specs.Option.{option_map}
use Rattle.mach_types.specs.declared.events.Tid.{Tid}
use Rattle.mach_types.specs.Kernel.Scheduling.{first_for}
use Rattle.scheduler.specs.Entries.{is_for}
use Rattle.scheduler.proofs.Copies.{first_copy}
use Rattle.scheduler.proofs.ready.Ready.first_for.Goals as goal

pub returns-in_err-first : goal.returns-in_err-first
returns-in_err-first c =
    ap (option_map (λ (t : Tid). t.0)) c.from_residual.ensures ∙ sym c.in_err-first.was ∙ c.first_allowed.ensures
    ∙ ap (λ (es : List (ℕ × ℕ)). option_map (λ (entry : ℕ × ℕ). entry.0) (find (is_for c.args.hart.0) es)) c.deref.ensures.0
    ∙ first_copy c.args.hart.0 c.self.inside.affinities c.self.inside.order.items c.self.invariant.sets
    ∙ ap (first_for c.args.hart.0) c.self.view_is

pub returns : goal.returns
returns c =
    sym c.in_ok-first.was ∙ c.first_allowed.ensures
    ∙ ap (λ (es : List (ℕ × ℕ)). option_map (λ (entry : ℕ × ℕ). entry.0) (find (is_for c.args.hart.0) es)) c.deref.ensures.0
    ∙ first_copy c.args.hart.0 c.self.inside.affinities c.self.inside.order.items c.self.invariant.sets
    ∙ ap (first_for c.args.hart.0) c.self.view_is
