-- Pages of 4,096 bytes, by number, and the stores that have a byte in them.
use Rattle.std.specs.Prelude.{◌≡◌, ℕ, ◌+◌, ◌-◌, ◌/◌, ◌<◌, ◌≤◌, Bool, true, ◌&&◌, nat_le, nat_lt}
use Rattle.mach_types.specs.declared.address_space.TheConstants.{PAGE_SIZE}
use Rattle.mach_types.specs.Bytes.{covers}
use Rattle.mach_types.specs.declared.user_memory.Store.{Store}

-- some byte of the store lies in the page
abbrev pub HasByteIn : ℕ → Store → Type 0
HasByteIn page s = (a : ℕ) × (covers s a ≡ true) × (a / PAGE_SIZE ≡ page)

-- some byte of the store lies in one of so many pages, from a first one on
abbrev pub HasByteAmong : ℕ → ℕ → Store → Type 0
HasByteAmong first count s = (a : ℕ) × (covers s a ≡ true) × (first ≤ a / PAGE_SIZE) × (a / PAGE_SIZE < first + count)

-- the first of these pages isn't behind that of the store's last byte, and they go on past that of its first byte
abbrev pub is_among : ℕ → ℕ → Store → Bool
is_among first count s = nat_le first ((s.at + (s.size - 1)) / PAGE_SIZE) && nat_lt (s.at / PAGE_SIZE - first) count
