use Rattle.std.proofs.Common.{◌≡◌, ◌∙◌, ◌++◌, Option, Some, None, ap, append-nil, sym}
use Rattle.mach_types.specs.Kernel.Areas.{area_of}
use Rattle.mach_types.specs.declared.sequences.Area.{Area}
use Rattle.block_model.specs.Here.{memory}
use Rattle.block_model.specs.Sequences.{area_here}
use Rattle.event_facts.specs.Areas.{area_words, kept_words}
use Rattle.event_facts.specs.Telling.{here_on}
use Rattle.event_facts.specs.declared.areas.AreaWords.{AreaWords}
use Rattle.event_facts.proofs.areas.push_registered.Goals as goal

pub returns : goal.returns
returns c = λ h.
    let here = here_on c.args.machine.now h in
    let t = c.args.tid.0 in
    let facts = c.args.facts.now.items in
    let has : area_here here t ≡ Some c.in-Some.area = sym (c.area_of.ensures ∙ ap (area_of t) c.kernel.ensures.areas) ∙ c.in-Some.is in
    c.in_ok-push_kept.ensures
    ∙ ap (λ (x : AreaWords). facts ++ kept_words x) (c.words_of-after.ensures h)
    ∙ ap (λ (o : Option Area). facts ++ area_words None (memory here) o) (sym has)

pub returns-in_default : goal.returns-in_default
returns-in_default c = λ h.
    let here = here_on c.args.machine.now h in
    let t = c.args.tid.0 in
    let facts = c.args.facts.now.items in
    let none : area_here here t ≡ None = sym (c.area_of.ensures ∙ ap (area_of t) c.kernel.ensures.areas) ∙ c.in_default.is in
    sym (append-nil facts) ∙ ap (λ (o : Option Area). facts ++ area_words None (memory here) o) (sym none)
