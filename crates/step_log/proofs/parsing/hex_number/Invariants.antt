use Rattle.step_log.proofs.Quick.{IsReadTo}
use Rattle.step_log.proofs.parsing.hex_number.Given as goal

abbrev pub invariant-loop-digit : goal.invariant-loop-digit
invariant-loop-digit l = IsReadTo l.digits l.digit-index l.number
