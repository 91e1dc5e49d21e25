use Rattle.process.proofs.Common.{list_any, holds}
use Rattle.process.proofs.ConcurrencyIds.{one_more_fits}
use Rattle.process.proofs.run.held_ids.Goals as goal

pub overflow_add-held : goal.overflow_add-held
overflow_add-held c = one_more_fits (λ id. list_any (holds id) c.args.harts.now) c.loop-id.id c.loop-id.held c.loop-id-test.true c.loop-id.invariant
