use Rattle.std.proofs.Common.{◌≡◌, false, true, sym, ◌∙◌, rules}
use Rattle.signals.proofs.Words.{fails_here, from_the_first, passes_here, past_the_last}
use Rattle.signals.proofs.frames.can_write_words.Goals as goal

pub loop-index-init : goal.loop-index-init
loop-index-init g c = from_the_first (g.M.UserMem.can_write c.args.mem.now) c.args.at c.args.count

pub returns-then-not-writable : goal.returns-then-not-writable
returns-then-not-writable g c =
    let cannot : c.writable.result ≡ false = search rules in
    sym (c.loop-index.invariant ∙ fails_here _ c.args.at c.loop-index.index c.args.count c.loop-index-test.true (sym c.writable.ensures ∙ cannot))

pub loop-index-preserved : goal.loop-index-preserved
loop-index-preserved g c =
    let can : c.writable.result ≡ true = search rules in
    c.loop-index.invariant ∙ passes_here _ c.args.at c.loop-index.index c.args.count c.loop-index-test.true (sym c.writable.ensures ∙ can)

pub returns : goal.returns
returns g c = sym (c.loop-index.invariant ∙ past_the_last _ c.args.at c.loop-index.index c.args.count c.loop-index-test.false)
