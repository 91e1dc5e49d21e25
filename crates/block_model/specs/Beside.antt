-- What stands beside a process on its machine: nothing, where it is alone there; or another process, with a
-- segment of bytes that the instructions of both may read and write. No page lies in the segment, so a call
-- of either finds none there (own).
use Rattle.std.specs.Prelude.{ℕ, ◌+◌, ◌&&◌, ◌||◌, Bool, if◌then◌else◌, Option, Some, None, nat_le, nat_lt}
use Rattle.mach_types.specs.declared.barriers.Registered.{Registered}

-- another process: the bytes of the segment by address, for which barriers the process is registered, and the
-- set of the harts on which its threads run: none once the process has ended, since its harts are idle then, though
-- its record still has its threads as they were
pub record Neighbour : Type 0 where
  pub shared : ℕ → ℕ
  pub registered : Registered
  pub running : ℕ

-- where the segment lies, and how many bytes it has (own)
abbrev pub SEGMENT_AT : ℕ
SEGMENT_AT = 0x3FFFF80000

abbrev pub SEGMENT_SIZE : ℕ
SEGMENT_SIZE = 65536

abbrev pub is_in_segment : ℕ → Bool
is_in_segment a = nat_le SEGMENT_AT a && nat_lt a (SEGMENT_AT + SEGMENT_SIZE)

-- bytes of memory, with those of the segment
abbrev pub with_segment : Option Neighbour → (ℕ → Option ℕ) → ℕ → Option ℕ
with_segment None byte = byte
with_segment (Some other) byte = λ a. if is_in_segment a then Some (other.shared a) else byte a

-- whether an address passes a test, or lies in the segment
abbrev pub or_in_segment : Option Neighbour → (ℕ → Bool) → ℕ → Bool
or_in_segment None test = test
or_in_segment (Some other) test = λ a. is_in_segment a || test a
