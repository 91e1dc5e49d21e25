use Rattle.percpu_lib.specs.Pushes.{push_form}
use Rattle.percpu_lib.proofs.PushLaw.{push_course}
use Rattle.percpu_lib.proofs.BlockRetries.{value_stays}
use Rattle.percpu_lib.proofs.theorems.retries_of_push_keep_its_value.Goals as goal

pub returns : goal.returns
returns c s first log later p at area t run held retries =
    value_stays s (push_form p) at area t (push_course p) held.slots.value first log later run held retries
