use Rattle.std.proofs.Common.{◌∙◌, Some, ap}
use Rattle.mach_types.specs.Events.{choice_of}
use Rattle.event_facts.specs.Telling.{here_on}
use Rattle.event_facts.proofs.EventDeeds.{drain_deed, instruction_deed}
use Rattle.event_facts.proofs.telling.deed_of.Goals as goal

pub returns-in-Instruction-clause-deed : goal.returns-in-Instruction-clause-deed
returns-in-Instruction-clause-deed c =
    instruction_deed (choice_of c.args.entry) (here_on c.args.machine.now c.args.entry.hart.0) c.in-Instruction.effect c.number_combined-seen.result c.hart.result.now.reserved
    c.of_effect.result (c.requires.event ∙ ap Some c.in-Instruction.is) (λ i. (c.hart.ensures i).reserved) c.number_combined-seen.ensures
    c.of_effect.ensures.executed c.of_effect.ensures.drained c.of_effect.ensures.entered

pub returns-in-Drain-clause-deed : goal.returns-in-Drain-clause-deed
returns-in-Drain-clause-deed c =
    drain_deed (choice_of c.args.entry) (here_on c.args.machine.now c.args.entry.hart.0) c.in-Drain.store c.of_drain.result
    (c.requires.event ∙ ap Some c.in-Drain.is) c.of_drain.ensures.executed c.of_drain.ensures.drained c.of_drain.ensures.entered
