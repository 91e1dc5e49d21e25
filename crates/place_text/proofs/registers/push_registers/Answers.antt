use Rattle.std.proofs.Common.{arith}
use Rattle.place_text.specs.Registers.{register_line, register_lines}
use Rattle.place_text.proofs.Lists.{all_numbers, range_step}
use Rattle.place_text.proofs.registers.push_registers.Goals as goal

pub loop-number-preserved : goal.loop-number-preserved
loop-number-preserved c =
    range_step (register_line c.args.hart.0 c.args.file.now) _ _ _ c.loop-number.number c.loop-number.invariant c.in_ok-push_register.ensures

pub returns : goal.returns
unfolding register_lines
returns c =
    all_numbers (register_line c.args.hart.0 c.args.file.now) _ _ c.loop-number.number 32 (omega arith) c.loop-number.invariant
