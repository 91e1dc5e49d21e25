-- Numbers, as a word writes them in decimal (own).
use Rattle.std.specs.Prelude.{ℕ, ◌^◌, Bool, ◌&&◌, List, length, Option, Some, None, if◌then◌else◌, nat_lt, nat_le}
use Rattle.std.specs.Char.{is_ascii_digit}
use Rattle.std.specs.List.{list_all}
use Rattle.std.specs.Str.Parse.{digits_value}
use Rattle.step_log.specs.Script.{◌>>=◌}

-- some numbers: from the least to the most
pub record Range : Type 0 where
  pub least : ℕ
  pub most : ℕ

abbrev pub range_of : ℕ → ℕ → Range
range_of least most = record { least = least; most = most }

-- a number is 1 to 20 decimal digits and nothing else, and is below 2 ^ 64
abbrev pub is_number : List ℕ → Bool
is_number text =
    nat_lt 0 (length text) && nat_le (length text) 20 && list_all is_ascii_digit text
    && nat_lt (digits_value 10 text) (2 ^ 64)

-- the number that a text writes, if it is one
abbrev pub number_of : List ℕ → Option ℕ
number_of text = if is_number text then Some (digits_value 10 text) else None

-- the number that a text writes, if it is one of these
abbrev pub number_in : Range → List ℕ → Option ℕ
number_in range text = do
  number ← number_of text
  if nat_le range.least number && nat_le number range.most then Some number else None
