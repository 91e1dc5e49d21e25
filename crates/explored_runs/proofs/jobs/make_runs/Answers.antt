use Rattle.std.proofs.Common.{◌+◌, ◌<◌, ℕ, Option, arith, length, subst, sym}
use Rattle.std.proofs.Math.ListN.{length-set}
use Rattle.std.specs.Option.{IfSome}
use Rattle.block_model.specs.Setting.{setting_of}
use Rattle.explored_runs.specs.Made.{IsMadeAt}
use Rattle.explored_runs.specs.declared.made.Made.{Made}
use Rattle.explored_runs.proofs.Batches.{made_or_absent}
use Rattle.explored_runs.proofs.Telling.{made_more}
use Rattle.explored_runs.proofs.jobs.make_runs.Goals as goal

pub loop-made-preserved : goal.loop-made-preserved
loop-made-preserved c =
    let so_far = c.loop-made.invariant in
    let s = setting_of c.args.task.now.image.now c.args.task.now.limits in
    let x = c.args.task.now.exploration.now in
    let batch = c.loop-made.batch in
    let n = c.loop-made.made-index in
    let made = c.ok.result in
    let below : n < length batch = omega arith in
    let last : IfSome made (IsMadeAt s x (c.args.from + n)) =
    subst (λ (place : ℕ). IfSome made (IsMadeAt s x place)) so_far.place
    (subst (λ (o : Option Made). IfSome o (IsMadeAt s x c.loop-made.place)) (sym c.ok.ensures.value)
    (made_or_absent (IsMadeAt s x c.loop-made.place) c.make_run.result c.make_run.ensures.made)) in
    record {
      made = made_more (λ (i : ℕ). IsMadeAt s x (c.args.from + i)) batch n made below so_far.made last;
      size = omega (arith, length-set batch n made, so_far.size);
      place = omega (arith, so_far.place);
      setting = c.make_run.ensures.setting;
    }
