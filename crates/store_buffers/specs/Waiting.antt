-- Stores that wait: so many at most, each of 1, 2, 4 or 8 bytes.
use Rattle.std.specs.Prelude.{◌≡◌, ◌≤◌, length}
use Rattle.std.specs.List.{AllByRecursion}
use Rattle.circular_buffer.specs.Buffer.{Buffer}
use Rattle.mach_types.specs.Bytes.{IsAccessSize}
use Rattle.mach_types.specs.declared.user_memory.Store.{Store}
use Rattle.mach_types.specs.declared.user_memory.TheConstants.{STORE_BUFFER_CAPACITY}

-- a ring that can be a store buffer
pub record IsBuffer (ring : Buffer Store) : Type 0 where
  pub capacity : ring.capacity ≡ STORE_BUFFER_CAPACITY
  pub room : length ring.items ≤ STORE_BUFFER_CAPACITY
  pub sizes : AllByRecursion (λ s. IsAccessSize s.size) ring.items
