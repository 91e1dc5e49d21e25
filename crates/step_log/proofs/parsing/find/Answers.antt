use Rattle.std.proofs.Common.{eqb}
use Rattle.step_log.proofs.FirstPlace.{first_byte_is_position}
use Rattle.step_log.proofs.parsing.find.Goals as goal

pub returns : goal.returns
returns c = first_byte_is_position (λ b. eqb b c.args.wanted) c.args.text.now _ c.memchr.ensures
