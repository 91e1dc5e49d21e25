use Rattle.percpu_lib.proofs.SignalExample as example
use Rattle.percpu_lib.proofs.theorems.handlers_return_to_blocks.Goals as goal

pub returns : goal.returns
returns c = (
  example.adding,
  example.returned,
  example.rest,
  example.slots,
  example.at,
  example.area,
  example.sequence,
  example.is_run,
  example.holds,
  example.left,
  example.is_sequence,
  example.begins_inside,
  example.leaves,
  example.adds,
)
