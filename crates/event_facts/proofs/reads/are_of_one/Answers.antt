use Rattle.std.proofs.Common.{◌≡◌, ◌∙◌, ◌&&◌, ap, rules}
use Rattle.rv_inst.specs.Words.{sum_64}
use Rattle.event_facts.specs.Sources.{same_source}
use Rattle.event_facts.specs.Tied.{kept_source}
use Rattle.event_facts.proofs.Lists.{all_more}
use Rattle.event_facts.proofs.reads.are_of_one.Goals as goal

pub loop-k-preserved : goal.loop-k-preserved
loop-k-preserved c =
    let from_is : c.from.result ≡ c.loop-k.k = search rules in
    let source = kept_source c.args.lines.now c.args.hart.0 in
    let next : c.source-source.result ≡ source (sum_64 c.args.at c.loop-k.k) = c.source-source.ensures ∙ ap (λ n. source (sum_64 c.args.at n)) from_is in
    c.is_same_if-one.ensures
    ∙ (λ i. c.loop-k.one && same_source (next i) (c.requires.first i))
    ∙ all_more (λ k. same_source (source (sum_64 c.args.at k)) (source c.args.at)) c.loop-k.k c.loop-k.one c.loop-k.invariant
