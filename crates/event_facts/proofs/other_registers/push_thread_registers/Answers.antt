use Rattle.std.proofs.Common.{arith}
use Rattle.event_facts.specs.OtherRegisters.{thread_register}
use Rattle.event_facts.proofs.Lists.{all_numbers, range_step}
use Rattle.event_facts.proofs.other_registers.push_thread_registers.Goals as goal

pub loop-number-preserved : goal.loop-number-preserved
loop-number-preserved c =
    range_step (thread_register c.args.tid.0 c.args.before.now c.args.after.now) _ _ _ c.loop-number.number c.loop-number.invariant
    c.in_ok-push_thread_register.ensures

pub returns : goal.returns
returns c =
    all_numbers (thread_register c.args.tid.0 c.args.before.now c.args.after.now) _ _ c.loop-number.number 32 (omega arith) c.loop-number.invariant
