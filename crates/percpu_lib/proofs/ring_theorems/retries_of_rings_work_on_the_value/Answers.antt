use Rattle.percpu_lib.proofs.RingRetries.{ring_value_comes_in}
use Rattle.percpu_lib.proofs.ring_theorems.retries_of_rings_work_on_the_value.Goals as goal

pub returns : goal.returns
returns c = ring_value_comes_in
