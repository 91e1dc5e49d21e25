use Rattle.std.proofs.Common.{refl}
use Rattle.urcu_lib.proofs.HandlerExample as example
use Rattle.urcu_lib.proofs.UseExample.{sync_regs}
use Rattle.urcu_lib.proofs.theorems.handlers_return_to_sync_blocks.Goals as goal

pub returns : goal.returns
returns c = (
  example.waiting,
  example.first,
  example.second,
  example.third,
  example.fourth,
  example.fifth,
  example.sixth,
  example.seventh,
  example.eighth,
  example.ninth,
  example.lock_entry,
  example.call_entry,
  example.signal_entry,
  example.back_entry,
  example.last_entry,
  example.again_entry,
  example.over_entry,
  example.urcu,
  0x10064,
  1,
  sync_regs,
  (
    example.is_run,
    example.its.holds,
    refl,
    refl,
    example.its.locks,
    record { exec = record { executes = refl; pc = refl }; of = refl },
    example.at_load,
    example.fails,
    refl,
    refl,
    example.comes_back,
    record { exec = record { executes = refl; pc = refl }; of = refl },
    example.starts,
    example.runs,
    record { exec = record { executes = refl; pc = refl }; of = refl },
    record { exec = record { executes = refl; pc = refl }; of = refl },
  ),
)
