-- So far the set has those before this one on which threads run.
use Rattle.process.proofs.Common.{◌≡◌, harts_that, is_busy}
use Rattle.process.proofs.requests.running_harts.Given as goal

abbrev pub invariant-loop-hart : goal.invariant-loop-hart
invariant-loop-hart l = l.running ≡ harts_that (is_busy l.harts) l.hart
