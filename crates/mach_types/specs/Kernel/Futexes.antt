-- futex(2): the mask of a wait. A thread that waits has its call in its registers until it is woken: the operation in a1, which is
-- x11, and the mask in a5, which is x15 (RISC-V psABI).
use Rattle.std.specs.Prelude.{ℕ, ◌-◌, ◌*◌, ◌/◌, ◌%◌, ◌^◌, ◌==◌, Bool, true, not, if◌then◌else◌, Option, Some, None, bit_and}
use Rattle.mach_types.specs.Registers.{register}
use Rattle.mach_types.specs.declared.threads.Saved.{Saved}

-- an operation without its bits 128, by which a futex is private to the process, and 256, by which a time is one of CLOCK_REALTIME
abbrev pub operation : ℕ → ℕ
operation op = op - 128 * ((op / 128) % 4)

-- WAIT has all bits, and WAIT_BITSET, which is 9, those of its mask
abbrev pub wait_mask : Saved → ℕ
wait_mask saved =
    if operation (register saved.file 11 % 2 ^ 32) == 9 then register saved.file 15 % 2 ^ 32 else 2 ^ 32 - 1

-- whether a thread that waits with this file hears a wake: one with a mask goes to the waits that have a bit of it, and one without a
-- mask to all
abbrev pub hears : Option ℕ → Saved → Bool
hears None saved = true
hears (Some mask) saved = not (bit_and (wait_mask saved) mask == 0)
