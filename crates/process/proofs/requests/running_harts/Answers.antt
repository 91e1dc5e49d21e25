use Rattle.process.proofs.Common.{is_busy}
use Rattle.process.proofs.ConcurrencyIds.{one_more_fits}
use Rattle.process.proofs.requests.running_harts.Goals as goal

pub overflow_add-running : goal.overflow_add-running
overflow_add-running c = one_more_fits (is_busy c.args.harts.now) c.loop-hart.hart c.loop-hart.running c.loop-hart-test.true c.loop-hart.invariant
