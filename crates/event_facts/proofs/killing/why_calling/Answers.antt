use Rattle.std.proofs.Common.{◌∙◌, sym}
use Rattle.block_model.specs.Sequences.{is_inside_here}
use Rattle.event_facts.specs.Killing.{call_kills}
use Rattle.event_facts.specs.Telling.{here_on}
use Rattle.event_facts.proofs.FoundReasons.{by_outside, inside_alone}
use Rattle.event_facts.proofs.killing.why_calling.Goals as goal

pub returns-in_default : goal.returns-in_default
returns-in_default c = λ t on.
    let here = here_on c.args.machine.now c.args.hart.0 in
    inside_alone c.why_outside.result (call_kills here t c.args.call.now.number) (is_inside_here here t) c.in_default.is (c.why_outside.ensures here t)

pub returns-else-is_inside : goal.returns-else-is_inside
returns-else-is_inside c = λ t on.
    let here = here_on c.args.machine.now c.args.hart.0 in
    by_outside c.why_outside.result (call_kills here t c.args.call.now.number) c.in-Some.why (is_inside_here here t) c.in-Some.is
    (sym (c.is_inside.ensures t on) ∙ c.if-is_inside.false) (c.why_outside.ensures here t)
