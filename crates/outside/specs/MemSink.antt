-- A sink in memory that fails where it is told to, and where it is full. (own)
use Rattle.std.specs.Prelude.{ℕ, ◌-◌, ◌&&◌, ◌||◌, Bool, List, length, min, nat_le, nat_lt}
use Rattle.outside.specs.Calls.{is_failing}

-- what it holds and how much it can hold, the numbers of the calls that fail, and how many calls and
-- faults there were
pub record MemorySink : Type 0 where
  pub held : List ℕ
  pub room : ℕ
  pub failing : List ℕ
  pub calls : ℕ
  pub faults : ℕ

-- whether it refuses this piece: one that isn't empty, when it is full or the call is to fail
abbrev pub is_refused : MemorySink → List ℕ → Bool
is_refused sink piece =
    nat_lt 0 (length piece) && (nat_le sink.room (length sink.held) || is_failing sink.failing sink.calls)

-- how many bytes it takes of a piece in one call
abbrev pub taken_of : MemorySink → List ℕ → ℕ
taken_of sink piece = min (length piece) (min (sink.room - length sink.held) 64)
