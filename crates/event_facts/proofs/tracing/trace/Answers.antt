use Rattle.std.proofs.Common.{◌≡◌, ◌∙◌, ◌++◌, List, Some, ap, sym}
use Rattle.mach_types.specs.Events.{choice_of}
use Rattle.rv_inst.specs.declared.effects.Effect.TheVariants as effect
use Rattle.fact_types.specs.declared.facts.Fact.{Fact}
use Rattle.event_facts.specs.Telling.{here_on, past_of, plain_event_of}
use Rattle.event_facts.specs.declared.telling.PlainEvent.TheVariants.{Instruction}
use Rattle.event_facts.proofs.Due.{due}
use Rattle.event_facts.proofs.LocalFacts.{local_facts, local_lines}
use Rattle.event_facts.proofs.tracing.trace.Goals as goal

pub plain_event-requires : goal.plain_event-requires
plain_event-requires c = (due c.args.machine.now c.args.entry c.requires.run c.requires.decided).lt

pub tell_register-requires-clause-hart : goal.tell_register-requires-clause-hart
tell_register-requires-clause-hart c = (due c.args.machine.now c.args.entry c.requires.run c.requires.decided).lt

pub returns-in-Instruction-Next-clause-facts : goal.returns-in-Instruction-Next-clause-facts
returns-in-Instruction-Next-clause-facts c =
    let m = c.args.machine.now in
    let x = c.in-Instruction-Next in
    let effect_is : x.field-0 ≡ effect.Next x.rd x.field-0-1 x.field-0-2 = rw x.is at x.field-0-is in
    let due_is = sym c.plain_event.ensures.event ∙ c.in-Some.is in
    c.in_ok-tell_register.ensures.facts
    ∙ ap (λ (l : List Fact). c.args.facts.now.items ++ l)
    (sym (c.plain_events_are_told_by_their_facts.ensures m.setting (past_of m) c.args.entry _ due_is
    ∙ local_facts m c.tell_register.new.machine c.args.entry c.requires.run c.requires.decided c.tell_register.ensures.machine
    x.rd x.field-0-1 x.field-0-2 (due_is ∙ ap Some (x.is ∙ ap Instruction effect_is)) c.tell_register.ensures.run))

pub returns-in-Instruction-Next-clause-lines : goal.returns-in-Instruction-Next-clause-lines
returns-in-Instruction-Next-clause-lines c =
    let x = c.in-Instruction-Next in
    let effect_is : x.field-0 ≡ effect.Next x.rd x.field-0-1 x.field-0-2 = rw x.is at x.field-0-is in
    local_lines c.args.machine.now c.tell_register.new.machine c.args.entry c.requires.run c.requires.decided c.tell_register.ensures.machine
    x.rd x.field-0-1 x.field-0-2 (sym c.plain_event.ensures.event ∙ c.in-Some.is ∙ ap Some (x.is ∙ ap Instruction effect_is))
    c.args.lines.now c.requires.lines

pub returns-clause-facts : goal.returns-clause-facts
returns-clause-facts c =
    let m = c.args.machine.now in
    c.in_ok-tell.ensures.facts
    ∙ ap (λ (l : List Fact). c.args.facts.now.items ++ l)
    (sym (c.plain_events_are_told_by_their_facts.ensures m.setting (past_of m) c.args.entry _ (sym c.plain_event.ensures.event ∙ c.in-Some.is)))
