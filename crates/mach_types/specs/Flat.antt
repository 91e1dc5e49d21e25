-- A flat memory (own): 1,024 bytes from 0x1000 on, the first of which, so many as it says, can be written.
use Rattle.std.specs.Prelude.{ℕ, ◌+◌, ◌-◌, ◌%◌, Bool, ◌&&◌, nat_le, nat_lt, if◌then◌else◌, Option, Some, None, slice_index, replicate}
use Rattle.mach_types.specs.declared.flat_memory.FlatMemory.{FlatMemory}

-- whether an address is one of the memory's
abbrev pub is_flat : ℕ → Bool
is_flat a = nat_le 0x1000 a && nat_lt a 0x1400

-- the byte at an address, where the memory has it
abbrev pub flat_byte : FlatMemory → ℕ → Option ℕ
flat_byte m a = if is_flat a then Some (slice_index m.bytes (a - 0x1000) % 256) else None

-- whether the byte at an address can be written
abbrev pub flat_can_write : FlatMemory → ℕ → Bool
flat_can_write m a = is_flat a && nat_lt a (0x1000 + m.writable)

-- all bytes 0
abbrev pub zero_memory : ℕ → FlatMemory
zero_memory writable = record { bytes = replicate 1024 0; writable = writable }
