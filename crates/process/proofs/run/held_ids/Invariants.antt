-- So far the set has the smaller ids that are held.
use Rattle.process.proofs.Common.{◌≡◌, list_any, harts_that, holds}
use Rattle.process.proofs.run.held_ids.Given as goal

abbrev pub invariant-loop-id : goal.invariant-loop-id
invariant-loop-id l = l.held ≡ harts_that (λ id. list_any (holds id) l.harts) l.id
