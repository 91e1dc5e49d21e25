use Rattle.std.proofs.Common.{◌≡◌, false, sym, subst}
use Rattle.mach_types.specs.Kernel.Scheduling.{Scheduling}
use Rattle.scheduler.specs.Holding.{is_ready}
use Rattle.scheduler.proofs.Copies.{without_gone}
use Rattle.scheduler.proofs.ready.Ready.remove.Goals as goal

pub invariant_of-self : goal.invariant_of-self
invariant_of-self c =
    let own = c.self.inside in
    let not_ready = subst (λ (s : Scheduling). is_ready c.args.tid.0 s ≡ false) (sym c.self.view_is) c.requires.not_ready in
    without_gone own.order.items own.affinities c.remove.new.self c.args.tid.0 c.self.invariant c.remove.ensures not_ready
