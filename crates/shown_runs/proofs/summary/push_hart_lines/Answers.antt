use Rattle.std.proofs.Common.{◌<◌, ◌∙◌, ap, arith, get_or}
use Rattle.std.proofs.lemmas.Option.{get_or_from_slice_get}
use Rattle.block_view.specs.Acts.{acts_of}
use Rattle.block_view.specs.Counting.{counts_of, no_counts}
use Rattle.shown_runs.proofs.Summaries.{one_line_more}
use Rattle.shown_runs.proofs.summary.push_hart_lines.Goals as goal

pub loop-hart-preserved : goal.loop-hart-preserved
loop-hart-preserved c =
    let s = c.args.machine.now.setting in
    let acts = acts_of s c.args.machine.now.log in
    let h = c.loop-hart.hart in
    let lt : h < s.limits.harts = omega (arith, c.loop-hart-test.true, c.harts-hart-end.ensures) in
    one_line_more c.args.text.now.items c.loop-hart.text.items c.push_counts_line.new.text.items acts h
    (get_or c.args.counts.now c.from.result no_counts) c.loop-hart.invariant c.in_ok-push_counts_line.ensures
    (ap (λ n. get_or c.args.counts.now n no_counts) c.from.ensures
    ∙ get_or_from_slice_get c.args.counts.now h (counts_of acts h) no_counts (c.requires.counts h lt))
