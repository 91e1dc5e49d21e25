use Rattle.chooser.proofs.Credits.{pick-small_credit, pick-credit_by_word, pick-lower_credit}
use Rattle.chooser.proofs.theorems.credit_is_small.Goals as goal

pub returns : goal.returns
returns c = record {
  kept = pick-small_credit;
  by_word = pick-credit_by_word;
  falls = pick-lower_credit;
}
