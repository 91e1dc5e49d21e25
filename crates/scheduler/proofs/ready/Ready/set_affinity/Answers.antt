use Rattle.std.proofs.Common.{ℕ, List, ap, ◌∙◌, arith}
use Rattle.mach_types.specs.Kernel.Scheduling.{with_affinity}
use Rattle.scheduler.specs.Entries.{numbers, scheduling_in}
use Rattle.scheduler.proofs.Copies.{with_harts}
use Rattle.scheduler.proofs.Kept.{same_numbers}
use Rattle.scheduler.proofs.ready.Ready.set_affinity.Goals as goal

pub invariant_of-self : goal.invariant_of-self
invariant_of-self c =
    let own = c.self.inside in
    with_harts own.order.items c.change_at.new.entries.items own.affinities c.change.new.self c.args.tid.0 c.harts_in-allowed.result c.self.invariant
    c.change_at.ensures c.change.ensures (omega arith)

pub returns-clause-ok : goal.returns-clause-ok
returns-clause-ok c =
    let own = c.self.inside in
    let tid = c.args.tid.0 in
    let set = c.harts_in-allowed.result in
    ap (λ (us : List ℕ). record { order = us; affinities = c.change.new.self }) (ap numbers c.change_at.ensures ∙ same_numbers tid set own.order.items)
    ∙ ap (λ (held : List (ℕ × ℕ)). scheduling_in own.order.items held) c.change.ensures
    ∙ ap (with_affinity tid set) c.self.view_is
    ∙ ap (λ (s : ℕ). with_affinity tid s c.args.self.now) c.harts_in-allowed.ensures
