use Rattle.block_model.proofs.theorems.one_machine.Goals as goal
use Rattle.block_model.proofs.PlainAgreement.{agreement, agreement_decide, agreement_end, agreement_here}

pub returns : goal.returns
returns c = record {
  state = λ s log run. agreement s log run.allowed;
  here = λ s log h run. agreement_here s log h run.allowed;
  answer = λ s log h choice run. agreement_decide s log h choice run.allowed;
  end = λ s log run. agreement_end s log run.allowed;
}
