-- no job so far had one, and all are as they were
use Rattle.std.proofs.Common.{◌≡◌}
use Rattle.explored_runs.proofs.jobs.take_batch.Given as goal

abbrev pub invariant-loop-job : goal.invariant-loop-job
invariant-loop-job l = l.jobs ≡ l.initial.jobs
