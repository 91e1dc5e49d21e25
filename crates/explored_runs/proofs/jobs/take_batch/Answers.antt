use Rattle.std.proofs.Common.{◌<◌, All, arith, length, subst, sym}
use Rattle.std.proofs.lemmas.List.Elements.{All-set}
use Rattle.explored_runs.specs.Jobs.{IsJob}
use Rattle.explored_runs.proofs.jobs.take_batch.Goals as goal

pub returns-in-Some-clause-batch : goal.returns-in-Some-clause-batch
returns-in-Some-clause-batch c = λ s x all.
    let jobs : All (IsJob s x) c.loop-job.jobs = subst (All (IsJob s x)) (sym c.loop-job.invariant) all in
    let below : c.loop-job.job-index < length c.loop-job.jobs = omega arith in
    c.in-Some.ensures.batch s x (jobs c.loop-job.job-index c.job-item.result below)

pub returns-in-Some-clause-jobs : goal.returns-in-Some-clause-jobs
returns-in-Some-clause-jobs c = λ s x all.
    let jobs : All (IsJob s x) c.loop-job.jobs = subst (All (IsJob s x)) (sym c.loop-job.invariant) all in
    let below : c.loop-job.job-index < length c.loop-job.jobs = omega arith in
    All-set (IsJob s x) c.loop-job.jobs c.loop-job.job-index c.take.new.self
    (c.in-Some.ensures.job s x (jobs c.loop-job.job-index c.job-item.result below)) jobs
