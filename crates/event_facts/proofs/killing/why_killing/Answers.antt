use Rattle.std.proofs.Common.{◌∙◌, ap, sym}
use Rattle.mach_types.specs.Events.{choice_of, kind_of, nature_of}
use Rattle.mach_types.specs.declared.events.Entry.{Entry}
use Rattle.block_model.specs.Deciding.{thread_in}
use Rattle.event_facts.specs.Interruptions.{came_by}
use Rattle.event_facts.specs.Killing.{came_bad, kills_by}
use Rattle.event_facts.specs.Telling.{here_on}
use Rattle.event_facts.proofs.Due.{due}
use Rattle.event_facts.proofs.FoundReasons.{none_bad, reason_named}
use Rattle.event_facts.proofs.killing.why_killing.Goals as goal

pub returns-in-None : goal.returns-in-None
returns-in-None c =
    let m = c.args.machine.now in
    let e = c.args.entry in
    let choice = choice_of e in
    let here = here_on m e.hart.0 in
    reason_named choice here e.tid.0 (thread_in choice here) c.why_by_kind.result
    (ap (λ (x : Entry). x.tid.0) (due m e c.requires.run c.requires.decided).is)
    (none_bad (came_bad (came_by choice here)) (kills_by (nature_of (kind_of choice)).interruption choice here e.tid.0) c.why_by_kind.result
    (sym (ap came_bad c.requires.came) ∙ sym c.came_bad.ensures ∙ c.in-None.is) c.why_by_kind.ensures)
