use Rattle.std.proofs.Common.{◌≡◌, ◌<◌, is_some, Some, sym, ap, ◌∙◌, subst, arith}
use Rattle.block_model.specs.Deciding.{history}
use Rattle.block_view.specs.Counters.{CanEnd, counts_at_end, kept_counts}
use Rattle.block_view.specs.declared.counter.HartCount.{HartCount}
use Rattle.block_view.specs.declared.course.Course.{Course}
use Rattle.block_view.proofs.CountedActs.{hart_read}
use Rattle.block_view.proofs.CountedLogs.{can_end_there, counts_of_log, one_more_hart}
use Rattle.block_view.proofs.SeenInside.{seen_inside}
use Rattle.block_view.proofs.counter.Counter.counts.Goals as goal

pub counts_at_end-requires : goal.counts_at_end-requires
counts_at_end-requires c =
    let m = c.args.machine.now in
    let t = kept_counts c.args.self.now in
    let h = c.loop-hart.hart in
    let test = c.loop-hart-test.true in
    let lt : h < m.setting.limits.harts = omega (arith, test, c.requires.harts) in
    let many = c.requires.counted.counts.harts ∙ c.requires.counted.tied.harts in
    let read = hart_read t h c.from.result c.index.result.now c.from.ensures (omega (arith, lt, many)) c.index.ensures in
    subst (λ (x : HartCount). (course : Course) → x.going ≡ Some course → CanEnd x.counts) (sym read)
    (can_end_there m t h c.requires.counted lt c.requires.limits c.requires.run)

pub loop-hart-preserved : goal.loop-hart-preserved
loop-hart-preserved c =
    let m = c.args.machine.now in
    let t = kept_counts c.args.self.now in
    let h = c.loop-hart.hart in
    let test = c.loop-hart-test.true in
    let lt : h < m.setting.limits.harts = omega (arith, test, c.requires.harts) in
    let many = c.requires.counted.counts.harts ∙ c.requires.counted.tied.harts in
    let read = hart_read t h c.from.result c.index.result.now c.from.ensures (omega (arith, lt, many)) c.index.ensures in
    let inside = c.is_some-inside.ensures ∙ ap is_some c.inside.ensures ∙ seen_inside m.setting h (history m.setting m.log) in
    one_more_hart m.setting m.log h c.loop-hart.counts.items c.push.new.self.items c.counts_at_end.result c.loop-hart.invariant
    c.in_ok-push.ensures.items
    (c.counts_at_end.ensures ∙ ap (counts_at_end c.is_some-inside.result) read ∙ counts_of_log m t h c.requires.counted lt c.is_some-inside.result inside)
