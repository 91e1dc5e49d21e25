use Rattle.std.proofs.Common.{◌≡◌, ◌≤◌, ◌∙◌, ap, arith, length, sym}
use Rattle.std.proofs.Math.ListN.{drop_of_length-le}
use Rattle.drawn_machine.specs.Waits.{no_waits}
use Rattle.explored_runs.specs.Accounts.{added}
use Rattle.explored_runs.specs.Waits.{with_counts}
use Rattle.explored_runs.proofs.WaitCounts.{counts_are_added}
use Rattle.explored_runs.proofs.waits.Waits.add_to.Goals as goal

pub returns : goal.returns
returns c =
    let items = c.deref-count-items.result.now in
    let over : length items ≤ c.loop-count.count-index = omega arith in
    let mine : with_counts no_waits items ≡ c.args.self.now =
    let given = ap (with_counts no_waits) c.deref-count-items.ensures.value in let view = c.self.view_is in cc in
    sym (ap (with_counts c.loop-count.sums) (drop_of_length-le items over)) ∙ c.loop-count.invariant.all
    ∙ counts_are_added c.args.sums.now items c.requires.length ∙ ap (added c.args.sums.now) mine
