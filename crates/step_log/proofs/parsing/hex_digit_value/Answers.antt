use Rattle.std.proofs.Common.{arith}
use Rattle.step_log.proofs.DigitValues.{read_below_16, read_from_16}
use Rattle.step_log.proofs.parsing.hex_digit_value.Goals as goal

pub returns-then-value-lt16 : goal.returns-then-value-lt16
returns-then-value-lt16 c = read_below_16 c.args.character (omega arith) c.if-value-lt16.true

pub returns-else-value-lt16 : goal.returns-else-value-lt16
returns-else-value-lt16 c = read_from_16 c.args.character (omega arith) c.if-value-lt16.false
