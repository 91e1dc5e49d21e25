use Rattle.process.proofs.Common.{◌≡◌, sym, ap, ◌∙◌, [], true, is_inside_here, Done, here_at}
use Rattle.process.proofs.ExecEvent.{done_inside}
use Rattle.process.proofs.parts.Parts.call_with_writes.Goals as goal

pub call_inside-requires-clause-inside : goal.call_inside-requires-clause-inside
call_inside-requires-clause-inside c v t place at = sym (c.is_inside.ensures v.setting v.plain t place.tied place.lt at) ∙ c.if-is_inside.true

pub call_outside-requires-clause-outside : goal.call_outside-requires-clause-outside
call_outside-requires-clause-outside c v t place at = sym (c.is_inside.ensures v.setting v.plain t place.tied place.lt at) ∙ c.if-is_inside.false

pub returns-then-is_inside-clause-written : goal.returns-then-is_inside-clause-written
returns-then-is_inside-clause-written c v place plan =
    let here = here_at v c.args.hart.0 in
    let t = plan.thread in
    let inside : is_inside_here here t ≡ true = sym (c.is_inside.ensures v.setting v.plain t place.tied place.lt plan.at) ∙ c.if-is_inside.true in
    let none : c.new.result.items ≡ [] = c.new.ensures in
    none ∙ ap (λ (d : Done). d.entered) (sym (done_inside here t plan.at (sym plan.fault) (sym plan.effect) inside))
