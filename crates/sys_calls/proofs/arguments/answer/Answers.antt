-- a0 is a register.
use Rattle.sys_calls.proofs.Common.{arith, get_or-set_same}
use Rattle.sys_calls.proofs.arguments.answer.Goals as goal

pub returns-clause-a0 : goal.returns-clause-a0
returns-clause-a0 c = get_or-set_same c.args.saved.now.file.x 10 c.args.value 0 (omega arith)
