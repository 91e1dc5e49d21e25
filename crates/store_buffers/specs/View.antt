-- What a hart sees of memory: a byte is that of its youngest waiting store that has it, else memory's
-- (RISC-V Unprivileged ISA, RVWMO and Ztso: a load sees the hart's own earlier stores).
use Rattle.std.specs.Prelude.{ℕ, List, Option}
use Rattle.std.specs.Option.{option_map}
use Rattle.mach_types.specs.Bytes.{overlay}
use Rattle.mach_types.specs.declared.user_memory.Store.{Store}

-- the byte at an address behind the waiting stores, where memory is readable
abbrev pub seen : List Store → (ℕ → Option ℕ) → ℕ → Option ℕ
seen stores byte a = option_map (overlay stores a) (byte a)
