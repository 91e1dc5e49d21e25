use Rattle.std.proofs.Common.{ap, ◌∙◌, length, arith}
use Rattle.block_view.specs.Counters.{KeptCounts, count_noted, count_settled, hart_noted_of, hung_now, kept_counts}
use Rattle.block_view.proofs.CountedActs.{hart_written, many_hung, many_settled}
use Rattle.block_view.proofs.counter.Counter.note.Goals as goal

pub returns : goal.returns
unfolding count_noted
returns c =
    let t = kept_counts c.args.self.now in
    let p = c.args.passed.now in
    let u = kept_counts c.hang.new.self in
    let is = c.in_ok-hang.ensures ∙ ap (hung_now p) c.settle.ensures in
    let many = ap (λ (x : KeptCounts). length x.harts) is ∙ many_hung p (count_settled p t) ∙ many_settled p t in
    hart_written p u c.hart.result c.index_mut.result.now c.note.new.self c.hart.ensures (omega (arith, many, c.requires.hart)) c.index_mut.ensures.value
    c.note.ensures
    ∙ ap (hart_noted_of p) is
