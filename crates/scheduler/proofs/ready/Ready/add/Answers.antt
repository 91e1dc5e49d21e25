use Rattle.std.proofs.Common.{◌≡◌, ◌<◌, false, length, sym, subst, arith}
use Rattle.mach_types.specs.Kernel.Scheduling.{Scheduling}
use Rattle.scheduler.specs.Holding.{is_held}
use Rattle.scheduler.proofs.Copies.{with_new}
use Rattle.scheduler.proofs.ready.Ready.add.Goals as goal

pub invariant_of-self : goal.invariant_of-self
invariant_of-self c =
    let own = c.self.inside in
    let not_held = subst (λ (s : Scheduling). is_held c.args.tid.0 s ≡ false) (sym c.self.view_is) c.requires.not_held in
    let room = subst (λ (s : Scheduling). length s.affinities < 64) (sym c.self.view_is) c.requires.room in
    with_new own.order.items own.affinities c.add.new.self c.args.tid.0 c.affinity-set.result c.self.invariant c.add.ensures not_held room (omega arith)
