use Rattle.step_log.proofs.HexDigits.{exec_text}
use Rattle.step_log.proofs.printing.exec_line.Goals as goal

pub returns : goal.returns
returns c = exec_text c.args.hart c.args.tid c.args.pc c.hex_digits-digits.result c.requires.digit c.hex_digits-digits.ensures
