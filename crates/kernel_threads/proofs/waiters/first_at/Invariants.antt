use Rattle.std.proofs.Common.{◌≡◌, drop, find}
use Rattle.kernel_threads.specs.Rows.{all_saved_in}
use Rattle.kernel_threads.specs.Table.{hears_saved}
use Rattle.kernel_threads.specs.Waits.{waits_at}
use Rattle.kernel_threads.proofs.waiters.first_at.Given as goal

-- none of those before waits at the address and listens
abbrev pub invariant-loop-waiter : goal.invariant-loop-waiter
invariant-loop-waiter l =
    let waits = waits_at l.at (hears_saved l.mask (all_saved_in l.live.items)) in
    find waits l.waiters ≡ find waits (drop l.waiter-index l.waiters)
