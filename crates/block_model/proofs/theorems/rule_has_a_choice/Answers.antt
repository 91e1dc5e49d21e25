use Rattle.block_model.proofs.theorems.rule_has_a_choice.Goals as goal
use Rattle.block_model.proofs.FixedRule.{rule_chooses, rule_is_made, executes_when_allowed}

pub returns : goal.returns
returns c = record {
  chooses = λ s log one run end. rule_chooses s log one run.allowed end;
  makes = λ s log choice one run end chosen. rule_is_made s log choice run.allowed one end chosen;
  allowed = λ s log entry is none. executes_when_allowed s log entry is none;
}
