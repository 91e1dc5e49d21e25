use Rattle.machine_core.proofs.Common.{code_enough}
use Rattle.machine_core.proofs.theorems.code_is_enough.Goals as goal

pub returns : goal.returns
returns c = λ pages n l rising. code_enough pages n l rising
