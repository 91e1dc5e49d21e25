use Rattle.std.proofs.Common.{◌∙◌, ◌++◌, List, ap}
use Rattle.mach_types.specs.Events.{choice_of}
use Rattle.mach_types.specs.declared.events.Choice.{Choice}
use Rattle.mach_types.specs.declared.user_memory.Write.{Write}
use Rattle.block_model.specs.Deciding.{decide}
use Rattle.process.specs.Foresight.{foreseen_writes}
use Rattle.event_facts.specs.Telling.{here_on, past_of}
use Rattle.event_facts.proofs.KernelDeeds.{all_foreseen}
use Rattle.event_facts.proofs.kernel_events.push_foreseen.Goals as goal

pub returns : goal.returns
returns c =
    let m = c.args.machine.now in
    let entry = c.args.entry in
    let here = here_on m entry.hart.0 in
    c.in_ok-extend_from_slice.ensures.items
    ∙ ap (λ (ws : List Write). c.args.written.now.items ++ ws)
    (c.as_slice.ensures.value
    ∙ c.foreseen_writes-foreseen.ensures.allowed entry (ap (decide m.setting (past_of m) entry.hart.0) c.choice.ensures ∙ c.requires.decided)
    ∙ ap (λ (k : Choice). foreseen_writes k here) c.choice.ensures
    ∙ all_foreseen (choice_of entry) here c.requires.plain c.requires.call)
