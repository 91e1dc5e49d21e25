use Rattle.std.proofs.Common.{arith}
use Rattle.block_view.proofs.Seeing.{no_such_hart}
use Rattle.block_view.proofs.passing.make_again.Goals as goal

pub returns-then-entry-harts-clause-refused : goal.returns-then-entry-harts-clause-refused
returns-then-entry-harts-clause-refused c = λ decided. no_such_hart c.args.machine.now c.args.entry (omega arith) decided
