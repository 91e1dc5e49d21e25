use Rattle.std.proofs.Common.{sym, ◌∙◌}
use Rattle.kernel_threads.specs.declared.waiters.Waiter.{Waiter}
use Rattle.kernel_threads.specs.Waits.{is_waiter}
use Rattle.mach_types.proofs.Places.{alone, without, once_if_distinct}
use Rattle.kernel_threads.proofs.FoundPlaces.{found_at}
use Rattle.kernel_threads.proofs.waiters.take_out.Goals as goal

pub returns-in-Some : goal.returns-in-Some
returns-in-Some c =
    let at = found_at (is_waiter c.args.number) c.deref.ensures.0 c.place_of.ensures c.in-Some.is in
    let once = once_if_distinct (λ (w : Waiter). w.number) c.args.number c.args.waiters.now.items c.requires in
    let there = alone (is_waiter c.args.number) (λ (w : Waiter). w) c.args.waiters.now.items c.in-Some.place c.remove.result at once in
    c.remove.ensures.items ∙ sym there.kept

pub returns-in_default : goal.returns-in_default
returns-in_default c =
    let at = found_at (is_waiter c.args.number) c.deref.ensures.0 c.place_of.ensures c.in_default.is in
    sym (without (is_waiter c.args.number) (λ (w : Waiter). w) c.args.waiters.now.items at).kept
