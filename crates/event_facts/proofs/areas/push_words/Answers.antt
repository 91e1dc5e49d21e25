use Rattle.std.proofs.Common.{◌∙◌, ◌++◌, Option, ap, sym}
use Rattle.block_model.specs.Here.{memory}
use Rattle.block_model.specs.Sequences.{area_here}
use Rattle.event_facts.specs.Areas.{area_words, changed_words}
use Rattle.event_facts.specs.Telling.{here_on}
use Rattle.event_facts.specs.declared.areas.AreaBefore.{AreaBefore}
use Rattle.event_facts.specs.declared.areas.AreaWords.{AreaWords}
use Rattle.event_facts.proofs.areas.push_words.Goals as goal

pub returns : goal.returns
returns c = λ h.
    let here = here_on c.args.machine.now h in
    let t = c.args.tid.0 in
    let facts = c.args.facts.now.items in
    c.in_ok-push_changed.ensures
    ∙ ap (λ (x : AreaWords). facts ++ changed_words c.in-Some.kept.words x) (c.words_of-after.ensures h)
    ∙ ap (λ (o : Option AreaBefore). facts ++ area_words o (memory here) (area_here here t)) (sym c.in-Some.is)

pub returns-in_default : goal.returns-in_default
returns-in_default c = λ h.
    let here = here_on c.args.machine.now h in
    let t = c.args.tid.0 in
    let facts = c.args.facts.now.items in
    c.in_ok-push_registered.ensures h
    ∙ ap (λ (o : Option AreaBefore). facts ++ area_words o (memory here) (area_here here t)) (sym c.in_default.is)
