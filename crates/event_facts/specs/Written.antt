-- In which line each byte of memory was written last, as it is kept: by the aligned 8 bytes in which the byte stands; and writes of more
-- than 8 bytes in a list.
use Rattle.std.specs.Prelude.{ℕ, ◌≡◌, ◌/◌, ◌%◌, ◌==◌, ◌&&◌, Bool, List, [], ◌∷◌, if◌then◌else◌, length, nat_eq, nat_le, nat_lt, replicate, slice_index, unwrap_or}
use Rattle.std.specs.HashMap.{get}
use Rattle.rv_inst.specs.Accesses.{bytes}
use Rattle.block_model.specs.Footprints.{has_byte}
use Rattle.event_facts.specs.declared.long_writes.LongWrite.{LongWrite}
use Rattle.event_facts.specs.declared.written.Word.{Word}
use Rattle.event_facts.specs.declared.written.Written.{Written}

-- the lines of the 8 bytes with this number; 0 for each that wasn't written
abbrev pub lines_at : Written → ℕ → List ℕ
lines_at x word = unwrap_or (get nat_eq x.words word) (replicate 8 0)

-- the line of a byte
abbrev pub line_at : Written → ℕ → ℕ
line_at x a = slice_index (lines_at x (a / 8)) (a % 8)

-- these are the lines of the 8 bytes with their number
pub record IsWordOf (x : Written) (known : Word) : Type 0 where
  pub lines : known.lines ≡ lines_at x known.number
  pub eight : length known.lines ≡ 8

-- whether a number is from one on and below another
abbrev pub is_from_to : ℕ → ℕ → ℕ → Bool
is_from_to from to k = nat_le from k && nat_lt k to

-- whether a byte is among those of 8 with this number, from one of them on and before another
abbrev pub is_among : ℕ → ℕ → ℕ → ℕ → Bool
is_among word from to a = (a / 8 == word) && is_from_to from to (a % 8)

-- writes of more than 8 bytes, the oldest first: the line of the last of these that has the byte; what it was before them, where none has
abbrev pub last_line : List LongWrite → ℕ → ℕ → ℕ
last_line [] a earlier = earlier
last_line (x ∷ xs) a earlier = last_line xs a (if has_byte (bytes x.at x.length) a then x.line else earlier)
