use Rattle.signals.proofs.Deliverable.{next_for-comes, next_for-is_signal, next_for-lowest, next_for-none}
use Rattle.signals.proofs.theorems.next_signal_is_the_lowest.Goals as goal

pub returns : goal.returns
returns c = record {
  comes = next_for-comes;
  lowest = λ t s g e. (next_for-is_signal t s g e).0;
  highest = λ t s g e. (next_for-is_signal t s g e).1;
  none_lower = next_for-lowest;
  none = next_for-none;
}
