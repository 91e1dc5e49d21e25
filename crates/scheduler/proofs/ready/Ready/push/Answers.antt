use Rattle.std.proofs.Common.{◌≡◌, ◌<◌, ℕ, false, true, length, sym, subst, arith}
use Rattle.std.proofs.lemmas.List.{length-map}
use Rattle.mach_types.specs.Kernel.Scheduling.{Scheduling}
use Rattle.scheduler.specs.Entries.{numbers}
use Rattle.scheduler.specs.Holding.{is_held, is_ready}
use Rattle.scheduler.proofs.Copies.{with_ready_entry}
use Rattle.scheduler.proofs.Kept.{room_for_ready}
use Rattle.scheduler.proofs.ready.Ready.push.Goals as goal

pub push-requires : goal.push-requires
push-requires c =
    let own = c.self.inside in
    let tid = c.args.tid.0 in
    let held = subst (λ (s : Scheduling). is_held tid s ≡ true) (sym c.self.view_is) c.requires.held in
    let not_ready = subst (λ (s : Scheduling). is_ready tid s ≡ false) (sym c.self.view_is) c.requires.not_ready in
    let room = room_for_ready (numbers own.order.items) own.affinities tid c.self.invariant.whole held not_ready in
    let few : length own.order.items < 64 = omega (arith, room, length-map own.order.items (λ (entry : ℕ × ℕ). entry.0)) in
    (omega arith, few)

pub invariant_of-self : goal.invariant_of-self
invariant_of-self c =
    let own = c.self.inside in
    let tid = c.args.tid.0 in
    let held = subst (λ (s : Scheduling). is_held tid s ≡ true) (sym c.self.view_is) c.requires.held in
    let not_ready = subst (λ (s : Scheduling). is_ready tid s ≡ false) (sym c.self.view_is) c.requires.not_ready in
    with_ready_entry own.order.items c.push.new.self.items own.affinities tid c.set_of-set.result c.self.invariant c.push.ensures.items c.set_of-set.ensures held not_ready
