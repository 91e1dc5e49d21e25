use Rattle.std.proofs.Common.{arith}
use Rattle.log_gather.proofs.MarkedTurns.{next_is, no_next}
use Rattle.log_gather.proofs.turns.next_turn.Goals as goal

pub returns-then-mark : goal.returns-then-mark
returns-then-mark c = λ d. next_is d c.args.marks.now c.loop-i.i _ c.loop-i-test.true c.if-mark.true c.loop-i.invariant

pub returns : goal.returns
returns c = λ d. no_next d c.args.marks.now c.loop-i.i (omega arith) c.loop-i.invariant
