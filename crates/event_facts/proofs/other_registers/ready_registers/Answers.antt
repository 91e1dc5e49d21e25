use Rattle.std.proofs.Common.{◌∙◌, Option, Some, ap, sym}
use Rattle.mach_types.specs.declared.threads.ThreadState.{ThreadState}
use Rattle.event_facts.specs.OtherRegisters.{where_off, where_ready}
use Rattle.event_facts.proofs.other_registers.ready_registers.Goals as goal

pub returns-in-Some-Ready : goal.returns-in-Some-Ready
returns-in-Some-Ready c = λ file is.
    let x = file c.args.tid.0 in
    let ready = sym c.state.ensures ∙ c.in-Some-Ready.is ∙ ap (λ (s : ThreadState). Some s) c.in-Some-Ready.field-0-is in
    c.saved_registers.ensures file is ∙ ap (λ (o : Option ThreadState). where_off o x) ready ∙ sym (ap (λ (o : Option ThreadState). where_ready o x) ready)
