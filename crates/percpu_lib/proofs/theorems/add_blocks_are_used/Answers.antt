use Rattle.percpu_lib.proofs.AddExample as example
use Rattle.percpu_lib.proofs.theorems.add_blocks_are_used.Goals as goal

pub returns : goal.returns
returns c = (
  example.adding,
  example.log,
  example.slots,
  example.at,
  example.area,
  0,
  example.sequence,
  example.is_run,
  example.holds,
  example.is_sequence,
  example.begins_inside,
  example.leaves,
  example.adds,
)
