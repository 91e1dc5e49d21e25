use Rattle.std.proofs.Common.{refl}
use Rattle.urcu_lib.proofs.UseExample as example
use Rattle.urcu_lib.proofs.theorems.sync_blocks_are_used.Goals as goal

pub returns : goal.returns
returns c = (
  example.reading,
  example.first,
  example.second,
  example.third,
  example.lock_entry,
  example.call_entry,
  example.last_entry,
  example.urcu,
  0x10030,
  1,
  example.sync_regs,
  example.is_run,
  example.its.holds,
  refl,
  example.its.locks,
  record { exec = record { executes = refl; pc = refl }; of = refl },
  record { exec = record { executes = refl; pc = refl }; of = refl },
)
