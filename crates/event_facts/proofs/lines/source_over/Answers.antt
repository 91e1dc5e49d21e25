use Rattle.std.proofs.Common.{◌+◌, ◌∙◌, List, ap, sym, arith, drop}
use Rattle.event_facts.specs.Sources.{source_over}
use Rattle.event_facts.specs.declared.lines.Numbered.{Numbered}
use Rattle.event_facts.proofs.KeptLines.{source_step}
use Rattle.event_facts.proofs.Lists.{at_end}
use Rattle.event_facts.proofs.lines.source_over.Goals as goal

pub loop-numbered-preserved : goal.loop-numbered-preserved
loop-numbered-preserved c =
    let ws = c.args.waiting.now in
    let i = c.loop-numbered.numbered-index in
    let none : Numbered = record { line = 0; store = record { at = 0; size = 0; value = 0 } } in
    ap (source_over (drop (i + 1) ws) c.args.at) c.over-source.ensures
    ∙ sym (source_step ws i c.args.at none c.loop-numbered.source c.loop-numbered-test.true)
    ∙ c.loop-numbered.invariant

pub returns : goal.returns
returns c =
    at_end (λ (xs : List Numbered). source_over xs c.args.at c.loop-numbered.source) c.args.waiting.now c.loop-numbered.numbered-index _ (omega arith)
    c.loop-numbered.invariant
