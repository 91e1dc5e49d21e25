use Rattle.std.proofs.Common.{◌≡◌, ◌∙◌, ◌++◌, ◌∷◌, [], ap, rules}
use Rattle.rv_inst.specs.Execution.{word_seen}
use Rattle.rv_inst.specs.Words.{sum_64}
use Rattle.block_model.specs.Here.{view}
use Rattle.fact_types.specs.declared.facts.Fact.TheVariants.{Read}
use Rattle.fact_types.specs.declared.facts.Source.{Source}
use Rattle.event_facts.specs.Facts.{byte_fact}
use Rattle.event_facts.specs.Telling.{here_on}
use Rattle.event_facts.specs.Tied.{kept_source}
use Rattle.event_facts.proofs.Lists.{map_step}
use Rattle.event_facts.proofs.reads.push_each.Goals as goal

pub loop-k-preserved : goal.loop-k-preserved
loop-k-preserved c =
    let from_is : c.from.result ≡ c.loop-k.k = search rules in
    let seen = view (here_on c.args.machine.now c.args.hart.0) in
    let fact = byte_fact seen (kept_source c.args.lines.now c.args.hart.0) c.args.at in
    let byte = sum_64 c.args.at c.from.result in
    map_step fact c.args.facts.now.items c.loop-k.facts.items _ c.loop-k.k c.loop-k.invariant
    (c.in_ok-push_read.ensures
    ∙ ap (λ (x : Source). c.loop-k.facts.items ++ Read byte 1 (word_seen seen byte 1) x ∷ []) c.source-source.ensures
    ∙ ap (λ n. c.loop-k.facts.items ++ fact n ∷ []) from_is)
