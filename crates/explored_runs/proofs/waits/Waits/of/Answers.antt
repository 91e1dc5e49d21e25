use Rattle.std.proofs.Common.{◌≤◌, ◌<◌, ◌+◌, ◌∙◌, List, ap, arith, get_or, length, refl, subst, sym}
use Rattle.std.specs.Prelude.{◌==◌}
use Rattle.drawn_machine.specs.Waits.{no_waits}
use Rattle.explored_runs.specs.Waits.{with_counts}
use Rattle.explored_runs.specs.declared.waits.WaitCount.{WaitCount}
use Rattle.explored_runs.proofs.WaitCounts.{begun_all, begun_none, few_more, kept_more}
use Rattle.explored_runs.proofs.waits.Waits.of.Goals as goal

pub loop-wait-init : goal.loop-wait-init
loop-wait-init c = record {
  kept = ap (with_counts no_waits) c.new-kept.ensures.items ∙ begun_none c.args.counts.now c.requires;
  few = omega (arith, ap (length {A = WaitCount}) c.new-kept.ensures.items);
}

pub loop-wait-preserved : goal.loop-wait-preserved
loop-wait-preserved c =
    let so_far = c.loop-wait.invariant in
    let counts = c.args.counts.now in
    let k = c.loop-wait.wait in
    let stores = get_or counts k 0 in
    let before = c.loop-wait.kept.items in
    let below : k < length counts = omega arith in
    record {
      kept = ap (with_counts no_waits) c.in_ok-keep.ensures ∙ kept_more counts before k stores below refl so_far.kept;
      few = subst (λ (cs : List WaitCount). length cs ≤ k + 1) (sym c.in_ok-keep.ensures)
          (few_more before (record { wait = k; stores = stores }) (stores == 0) k so_far.few);
    }

pub returns : goal.returns
returns c = c.loop-wait.invariant.kept ∙ begun_all c.args.counts.now c.loop-wait.wait (omega arith)
