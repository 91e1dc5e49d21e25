use Rattle.std.proofs.Common.{◌∙◌, ℕ, List, ap, sym}
use Rattle.std.proofs.lemmas.Bool.{OnTrue_from, OnFalse_from}
use Rattle.mach_types.specs.Kernel.Scheduling.{without_ready}
use Rattle.scheduler.specs.Entries.{scheduling_in}
use Rattle.scheduler.specs.Holding.{is_ready}
use Rattle.scheduler.proofs.Copies.{without_entry, among_numbers, numbers_filter, nothing_out}
use Rattle.scheduler.proofs.ready.Ready.take.Goals as goal

pub invariant_of-self : goal.invariant_of-self
invariant_of-self c =
    let own = c.self.inside in
    without_entry own.order.items c.take_out.new.entries.items own.affinities c.args.tid.0 c.self.invariant c.take_out.ensures.rest

pub returns-clause-ready : goal.returns-clause-ready
returns-clause-ready c =
    c.take_out.ensures.found ∙ among_numbers c.args.tid.0 c.self.inside.order.items ∙ ap (is_ready c.args.tid.0) c.self.view_is

pub returns-clause-taken : goal.returns-clause-taken
returns-clause-taken c =
    let own = c.self.inside in
    OnTrue_from c.take_out.result _ (λ taken.
    ap (λ (us : List ℕ). record { order = us; affinities = own.affinities }) (numbers_filter own.order.items c.take_out.new.entries.items c.args.tid.0 c.take_out.ensures.rest)
    ∙ ap (without_ready c.args.tid.0) c.self.view_is)

pub returns-clause-unchanged : goal.returns-clause-unchanged
returns-clause-unchanged c =
    let own = c.self.inside in
    OnFalse_from c.take_out.result _ (λ absent.
    ap (λ (es : List (ℕ × ℕ)). scheduling_in es own.affinities) (c.take_out.ensures.rest ∙ nothing_out c.args.tid.0 own.order.items (sym c.take_out.ensures.found ∙ absent))
    ∙ c.self.view_is)
