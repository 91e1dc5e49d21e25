use Rattle.std.proofs.Common.{◌≡◌, ◌∙◌, Option, Some, None, ap, sym}
use Rattle.std.specs.Option.{option_map}
use Rattle.mach_types.specs.Kernel.Areas.{area_of}
use Rattle.block_model.specs.Here.{memory}
use Rattle.block_model.specs.Sequences.{area_here}
use Rattle.event_facts.specs.Areas.{area_with}
use Rattle.event_facts.specs.Telling.{here_on}
use Rattle.event_facts.specs.declared.areas.AreaBefore.{AreaBefore}
use Rattle.event_facts.specs.declared.areas.AreaWords.{AreaWords}
use Rattle.event_facts.proofs.areas.area_kept.Goals as goal

pub returns : goal.returns
returns c = λ h.
    let here = here_on c.args.machine.now h in
    let t = c.args.tid.0 in
    let area = c.in_ok-area.area in
    let has : area_here here t ≡ Some area = sym (c.area_of.ensures ∙ ap (area_of t) c.kernel.ensures.areas) ∙ c.in_ok-area.was in
    ap (λ (x : AreaWords). let o : Option AreaBefore = Some (record { area = area; words = x }) in o) (c.words_of.ensures h)
    ∙ ap (option_map (area_with (memory here))) (sym has)

pub returns-in_err-area : goal.returns-in_err-area
returns-in_err-area c = λ h.
    let here = here_on c.args.machine.now h in
    let t = c.args.tid.0 in
    let none : area_here here t ≡ None = sym (c.area_of.ensures ∙ ap (area_of t) c.kernel.ensures.areas) ∙ c.in_err-area.was in
    c.from_residual.ensures ∙ ap (option_map (area_with (memory here))) (sym none)
