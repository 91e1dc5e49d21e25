use Rattle.std.proofs.Common.{◌+◌, ◌∙◌, ◌++◌, append-nil, arith, sym}
use Rattle.event_facts.specs.OtherRegisters.{woken_from, woken_registers}
use Rattle.event_facts.proofs.Lists.{all_numbers, range_step}
use Rattle.event_facts.proofs.other_registers.push_all_woken.Goals as goal

pub loop-earlier-init : goal.loop-earlier-init
loop-earlier-init c = λ file is. sym (append-nil c.args.facts.now.items)

pub loop-earlier-preserved : goal.loop-earlier-preserved
loop-earlier-preserved c = λ file is.
    range_step (woken_from c.args.waiting.now file c.args.threads.now.threads) _ _ _ c.loop-earlier.earlier (c.loop-earlier.invariant file is)
    (c.in_ok-push_woken.ensures
    ∙ (λ i. c.loop-earlier.facts.items
    ++ woken_registers (c.loop-earlier.earlier + 1) (c.at_place-before.ensures i) (c.ready_registers.ensures file is i)))

pub returns : goal.returns
returns c = λ file is.
    all_numbers (woken_from c.args.waiting.now file c.args.threads.now.threads) _ _ c.loop-earlier.earlier c.args.given (omega arith)
    (c.loop-earlier.invariant file is)
