use Rattle.std.proofs.Common.{◌∙◌, ap, sym}
use Rattle.event_facts.specs.Calls.{call_on}
use Rattle.event_facts.specs.Telling.{here_on}
use Rattle.event_facts.proofs.FoundReasons.{call_found}
use Rattle.event_facts.proofs.killing.why_executing.Goals as goal

pub returns-in-Some : goal.returns-in-Some
returns-in-Some c =
    let here = here_on c.args.machine.now c.args.entry.hart.0 in
    call_found here c.args.entry.tid.0 c.in-Some.call c.why_calling.result
    (sym (ap (call_on here) c.requires.runs) ∙ sym c.requires.call ∙ c.in-Some.is) (c.why_calling.ensures c.args.entry.tid.0 c.requires.runs)
