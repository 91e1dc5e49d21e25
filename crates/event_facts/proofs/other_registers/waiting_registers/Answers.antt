use Rattle.std.proofs.Common.{◌∙◌, Option, Some, ap, sym}
use Rattle.mach_types.specs.declared.threads.ThreadState.{ThreadState}
use Rattle.event_facts.specs.OtherRegisters.{where_off, where_waiting}
use Rattle.event_facts.proofs.other_registers.waiting_registers.Goals as goal

pub returns-in-Some-Waiting : goal.returns-in-Some-Waiting
returns-in-Some-Waiting c = λ file is.
    let x = file c.args.tid.0 in
    let waits = sym c.state.ensures ∙ c.in-Some-Waiting.is ∙ ap (λ (s : ThreadState). Some s) c.in-Some-Waiting.field-0-is in
    c.saved_registers.ensures file is ∙ ap (λ (o : Option ThreadState). where_off o x) waits ∙ sym (ap (λ (o : Option ThreadState). where_waiting o x) waits)
