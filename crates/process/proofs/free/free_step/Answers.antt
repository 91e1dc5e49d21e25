-- Whether a hart goes freely.
use Rattle.process.proofs.Common.{arith, not-false, sym, ◌∙◌}
use Rattle.block_model.specs.Instruction.{next_effect}
use Rattle.process.proofs.Common.{file_of}
use Rattle.process.proofs.FreeSteps.{has_step}
use Rattle.process.proofs.free.free_step.Goals as goal

pub returns-clause-free : goal.returns-clause-free
returns-clause-free c = rw c.next_step.ensures (rw (has_step (next_effect c.args.code.now (file_of c.args.state.now)), not-false _ (sym c.is_idle.ensures ∙ c.if-is_idle.false), sym c.is_some.ensures ∙ c.if-is_some.false) (grind arith))
