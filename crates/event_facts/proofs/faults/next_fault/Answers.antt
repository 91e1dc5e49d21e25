use Rattle.std.proofs.Common.{◌∙◌, sym}
use Rattle.std.specs.Option.{option_map}
use Rattle.block_model.specs.Here.{runs}
use Rattle.event_facts.specs.Faults.{fault_told}
use Rattle.event_facts.specs.Telling.{here_on}
use Rattle.event_facts.proofs.PlainTraces.{fault_there}
use Rattle.event_facts.proofs.faults.next_fault.Goals as goal

pub returns : goal.returns
returns c =
    let here = here_on c.args.machine.now c.args.hart.0 in
    c.fault_if.ensures
    ∙ (λ i. option_map (fault_told (c.next_effect.ensures i) (c.hart.ensures i).pc) (c.next_fault.ensures i))
    ∙ sym (fault_there here (runs here))
