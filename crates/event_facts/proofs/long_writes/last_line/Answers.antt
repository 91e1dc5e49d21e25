use Rattle.std.proofs.Common.{◌+◌, ◌∙◌, List, ap, sym, arith, drop}
use Rattle.std.proofs.lemmas.List.{drop_more}
use Rattle.event_facts.specs.Written.{last_line}
use Rattle.event_facts.specs.declared.long_writes.LongWrite.{LongWrite}
use Rattle.event_facts.proofs.Lists.{at_end}
use Rattle.event_facts.proofs.long_writes.last_line.Goals as goal

pub loop-write-preserved : goal.loop-write-preserved
loop-write-preserved c =
    let ws = c.args.writes.now in
    let i = c.loop-write.write-index in
    ap (last_line (drop (i + 1) ws) c.args.at) c.over-line.ensures
    ∙ sym (ap (λ (xs : List LongWrite). last_line xs c.args.at c.loop-write.line) (drop_more ws i _ c.loop-write-test.true))
    ∙ c.loop-write.invariant

pub returns : goal.returns
returns c =
    at_end (λ (xs : List LongWrite). last_line xs c.args.at c.loop-write.line) c.args.writes.now c.loop-write.write-index _ (omega arith)
    c.loop-write.invariant
