-- The page map after writes.
use Rattle.std.specs.Prelude.{ℕ, ◌≡◌, List}
use Rattle.mach_types.specs.Bytes.{after_writes}
use Rattle.mach_types.specs.declared.user_memory.Write.{Write}
use Rattle.page_map.specs.Map.{Map, break_in, break_start_in, free_in, held_in, permission_in}

-- its bytes are those of the writes, and nothing else of its pages changed
pub record IsWritten (ws : List Write) (m m' : Map) : Type 0 where
  pub permissions : (n : ℕ) → permission_in m' n ≡ permission_in m n
  pub held : (a : ℕ) → held_in m' a ≡ after_writes ws (held_in m) a
  pub free : free_in m' ≡ free_in m
  pub break_at : break_in m' ≡ break_in m
  pub break_start : break_start_in m' ≡ break_start_in m
