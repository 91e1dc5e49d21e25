use Rattle.scheduler.proofs.OtherHarts.{affinity_of-changed, affinity_of-other, other_test}
use Rattle.scheduler.proofs.theorems.affinity_changes_alone.Goals as goal

pub returns : goal.returns
returns c = record {
  own = affinity_of-changed;
  others = λ t u set s other. affinity_of-other t set u s (other_test u t other);
}
