use Rattle.std.proofs.Common.{arith}
use Rattle.event_facts.specs.Facts.{register_fact}
use Rattle.event_facts.proofs.Lists.{all_numbers, range_step}
use Rattle.event_facts.proofs.registers.push_registers.Goals as goal

pub loop-number-preserved : goal.loop-number-preserved
loop-number-preserved c =
    range_step (register_fact c.args.before.now c.args.after.now) _ _ _ c.loop-number.number c.loop-number.invariant c.in_ok-push_register.ensures

pub returns : goal.returns
returns c =
    all_numbers (register_fact c.args.before.now c.args.after.now) _ _ c.loop-number.number 32 (omega arith) c.loop-number.invariant
