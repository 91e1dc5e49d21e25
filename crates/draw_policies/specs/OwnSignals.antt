-- When a signal is delivered before the thread of a hart goes on (signal(7)): the kernel delivers it before it goes back to the thread.
use Rattle.std.specs.Prelude.{◌≡◌, Bool, true, false}
use Rattle.mach_types.specs.Events.{maker_of}
use Rattle.mach_types.specs.declared.events.Choice.{Choice}
use Rattle.mach_types.specs.declared.events.Maker.{Maker}
use Rattle.mach_types.specs.declared.events.Maker.TheVariants.{Thread, Buffer, Kernel}
use Rattle.mach_types.specs.declared.events.Sight.{Sight}

-- a signal can be delivered to the hart's thread, once no store of the hart waits
pub record IsDeliverable (seen : Sight) : Type 0 where
  pub some : seen.deliverable ≡ true
  pub runs : seen.idle ≡ false
  pub apart : seen.in_barrier ≡ false

-- whether the hart is in its kernel by an event of this maker, and goes back to a thread behind it: by an instruction where it traps
-- (RISC-V Privileged Architecture: an environment call or an exception), not by a store of it that enters memory, and by each event of
-- the kernel itself
abbrev pub enters_kernel : Bool → Maker → Bool
enters_kernel traps Thread = traps
enters_kernel traps Buffer = false
enters_kernel traps Kernel = true

-- so by this choice, where the thread's next instruction traps or not
abbrev pub comes_back : Bool → Choice → Bool
comes_back traps c = enters_kernel traps (maker_of c)
