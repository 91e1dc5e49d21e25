use Rattle.std.proofs.Common.{◌∙◌, sym, arith}
use Rattle.block_model.specs.Setting.{setting_of}
use Rattle.explored_runs.proofs.sharing.tell_round.Goals as goal

pub returns-then-has_enough-clause-jobs : goal.returns-then-has_enough-clause-jobs
returns-then-has_enough-clause-jobs g c =
    c.in-Some.ensures.jobs (setting_of c.args.task.now.image.now c.args.task.now.limits) c.args.task.now.exploration.now
    c.batches.invariant.jobs

pub batches-preserved : goal.batches-preserved
batches-preserved g c = record {
  exploring = c.in_ok-tell_batch.ensures.exploring;
  wanted = sym c.has_enough.ensures ∙ c.if-has_enough.false;
  jobs = c.in-Some.ensures.jobs (setting_of c.args.task.now.image.now c.args.task.now.limits) c.args.task.now.exploration.now
      c.batches.invariant.jobs;
  more = omega (arith, c.batches.invariant.more, c.in_ok-tell_batch.ensures.more);
}
