use Rattle.std.proofs.Common.{◌≡◌, length}
use Rattle.explored_runs.proofs.jobs.empty_batch.Given as goal

abbrev pub invariant-loop : goal.invariant-loop
invariant-loop l = length l.batch.items ≡ l.counter
