-- Bytes of memory, numbers in them, and stores. Numbers are little-endian: the lowest byte comes first
-- (RISC-V Unprivileged ISA, 1.4: memory is byte-addressed and little-endian here).
use Rattle.std.specs.Prelude.{ℕ, ◌+◌, ◌-◌, ◌*◌, ◌/◌, ◌%◌, ◌^◌, ◌≡◌, ◌⊎◌, Bool, true, ◌&&◌, nat_le, nat_lt, List, [], ◌∷◌, if◌then◌else◌, Option, Some, None, zero, suc}
use Rattle.std.specs.Option.{option_map}
use Rattle.mach_types.specs.declared.user_memory.Store.{Store}
use Rattle.mach_types.specs.declared.user_memory.Write.{Write}
use Rattle.mach_types.specs.declared.user_memory.Write.TheVariants.{Stored, Zeroed}

-- how many bytes one access has
abbrev pub IsAccessSize : ℕ → Type 0
IsAccessSize n = (n ≡ 1) ⊎ ((n ≡ 2) ⊎ ((n ≡ 4) ⊎ (n ≡ 8)))

-- a number whose lowest byte is given, over the number of the bytes above it
abbrev pub joined : Option ℕ → Option ℕ → Option ℕ
joined (Some low) (Some high) = Some (low + 256 * high)
joined (Some low) None = None
joined None high = None

-- the number of the bytes at `at`, `at + 1`, .. , so many of them; none where one of them is missing
abbrev pub word_at : (ℕ → Option ℕ) → ℕ → ℕ → Option ℕ
word_at byte at zero = Some 0
word_at byte at (suc n) = joined (byte at) (word_at byte (at + 1) n)

-- whether a test holds of each address of an access
abbrev pub each_byte : (ℕ → Bool) → ℕ → ℕ → Bool
each_byte test at zero = true
each_byte test at (suc n) = test at && each_byte test (at + 1) n

-- byte k of a number, the lowest being byte 0
abbrev pub byte_of : ℕ → ℕ → ℕ
byte_of value k = (value / 256 ^ k) % 256

-- whether a store has the address
abbrev pub covers : Store → ℕ → Bool
covers s a = nat_le s.at a && nat_lt a (s.at + s.size)

-- the byte at an address after a store, over what was there
abbrev pub byte_over : Store → ℕ → ℕ → ℕ
byte_over s a below = if covers s a then byte_of s.value (a - s.at) else below

-- the byte at an address after these stores in order: the last one that has it decides
abbrev pub overlay : List Store → ℕ → ℕ → ℕ
overlay [] a below = below
overlay (s ∷ ss) a below = overlay ss a (byte_over s a below)

-- the byte at an address after a store, where it is readable
abbrev pub stored : Store → (ℕ → Option ℕ) → ℕ → Option ℕ
stored s byte a = option_map (byte_over s a) (byte a)

-- the byte at an address after a store that was made, or was refused
abbrev pub after_write : Bool → Store → (ℕ → Option ℕ) → ℕ → Option ℕ
after_write made s byte a = if made then stored s byte a else byte a

-- the byte at an address after a write, over what was there
abbrev pub byte_after : Write → ℕ → ℕ → ℕ
byte_after (Stored s) a below = byte_over s a below
byte_after (Zeroed at n) a below = if nat_le at a && nat_lt a (at + n) then 0 else below

-- the byte at an address after these writes in order
abbrev pub written : List Write → ℕ → ℕ → ℕ
written [] a below = below
written (w ∷ ws) a below = written ws a (byte_after w a below)

-- the byte at an address after these writes in order, where it is readable
abbrev pub after_writes : List Write → (ℕ → Option ℕ) → ℕ → Option ℕ
after_writes ws byte a = option_map (written ws a) (byte a)

-- stores as writes
abbrev pub all_stored : List Store → List Write
all_stored [] = []
all_stored (s ∷ ss) = Stored s ∷ all_stored ss
