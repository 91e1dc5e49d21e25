use Rattle.percpu_lib.specs.Uses.{add_form}
use Rattle.percpu_lib.proofs.AddLaw.{add_course}
use Rattle.percpu_lib.proofs.BlockRetries.{value_stays}
use Rattle.percpu_lib.proofs.theorems.retries_of_add_keep_its_value.Goals as goal

pub returns : goal.returns
returns c s first log later p at area t run held retries =
    value_stays s (add_form p) at area t (add_course p) held.slots.value first log later run held retries
