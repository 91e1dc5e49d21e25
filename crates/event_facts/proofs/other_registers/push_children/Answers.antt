use Rattle.std.proofs.Common.{◌+◌, ◌-◌, ◌∙◌, ◌++◌, Option, ap, append-nil, arith, sym}
use Rattle.mach_types.specs.declared.registers.Regs.{Regs}
use Rattle.event_facts.specs.OtherRegisters.{child_fact, child_registers}
use Rattle.event_facts.proofs.Lists.{all_numbers, range_step}
use Rattle.event_facts.proofs.other_registers.push_children.Goals as goal

pub loop-further-init : goal.loop-further-init
loop-further-init c = λ file is. sym (append-nil c.args.facts.now.items)

pub loop-further-preserved : goal.loop-further-preserved
loop-further-preserved c = λ file is.
    range_step (child_fact c.args.given c.args.parent.now file c.args.threads.now.threads) _ _ _ c.loop-further.further (c.loop-further.invariant file is)
    (c.in_ok-push_child.ensures
    ∙ ap (λ (o : Option Regs). c.loop-further.facts.items ++ child_registers (c.args.given + c.loop-further.further + 1) c.args.parent.now o)
    (c.ready_registers.ensures file is))

pub returns : goal.returns
returns c = λ file is.
    let ts = c.args.threads.now.threads in
    all_numbers (child_fact c.args.given c.args.parent.now file ts) _ _ c.loop-further.further (ts.given - c.args.given) (omega arith)
    (c.loop-further.invariant file is)
