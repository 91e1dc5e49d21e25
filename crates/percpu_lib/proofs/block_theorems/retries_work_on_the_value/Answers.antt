use Rattle.percpu_lib.proofs.KindLaws.{bits_come_in, value_comes_in}
use Rattle.percpu_lib.proofs.block_theorems.retries_work_on_the_value.Goals as goal

pub returns : goal.returns
returns c = record { bits = bits_come_in; number = value_comes_in }
