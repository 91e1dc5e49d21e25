use Rattle.std.proofs.Common.{◌≡◌, ◌∙◌, ◌&&◌, Option, Some, None, cond, is_none, sym}
use Rattle.rv_inst.specs.Class.{is_call}
use Rattle.block_model.specs.Here.{runs}
use Rattle.block_model.specs.Sights.{effect_here}
use Rattle.fact_types.specs.declared.calls.SystemCall.{SystemCall}
use Rattle.event_facts.specs.Calls.{call_in}
use Rattle.event_facts.specs.Telling.{here_on}
use Rattle.event_facts.proofs.CallAnswers.{call_there}
use Rattle.event_facts.proofs.calls.call_on.Goals as goal

pub returns : goal.returns
returns c =
    let here = here_on c.args.machine.now c.args.hart.0 in
    let e = c.in_ok-effect.effect in
    let is : effect_here here ≡ Some e = sym c.next_effect.ensures ∙ c.in_ok-effect.was in
    c.call_of.ensures
    ∙ (λ i. let o : Option SystemCall = cond (is_none (c.next_fault.ensures i) && is_call e) (Some (call_in (c.hart.ensures i).file)) None in o)
    ∙ sym (call_there here (runs here) e is)
