-- The table of hexadecimal digits.
use Rattle.std.proofs.Common.{◌≡◌, ℕ, zero, suc, ◌-◌, ◌<◌, ◌≤◌, Bool, true, false, ◌&&◌, cond, T, eqb, get_or, Option, Some, None, refl, ap, inl, inr, arith, eq-zero-or-pos, eqb→eq}
use Rattle.std.specs.Char.{digit_value}
use lib.Ieee.Fits.{and_l, and_r}
use Rattle.step_log.proofs.Numbers.{hex_digit_value_small}
use Rattle.step_log.specs.Script.{is_hex_digit}
use Rattle.step_log.specs.declared.parsing.TheConstants.{DIGIT_VALUES}

-- what stands in it for a character
abbrev value_of : ℕ → ℕ
value_of b = cond (is_hex_digit b) (digit_value b) 255

abbrev are_values : ℕ → Bool
are_values zero = true
are_values (suc b) = eqb (get_or DIGIT_VALUES b 0) (value_of b) && are_values b

below : (n b : ℕ) → T (are_values n) → b < n → get_or DIGIT_VALUES b 0 ≡ value_of b
below zero b t h = absurd (omega arith)
below (suc n) b t h =
    elim (eq-zero-or-pos (n - b)) [
      | inl z ↦
          let e : b ≡ n = omega arith in
          rw e (eqb→eq _ _ (and_l _ (are_values n) t))
      | inr g ↦ below n b (and_r _ (are_values n) t) (omega arith)
    ]

pub value_at : (b : ℕ) → b < 256 → get_or DIGIT_VALUES b 0 ≡ cond (is_hex_digit b) (digit_value b) 255
value_at b h = below 256 b tt h

-- a value below 16 is that of a digit, and another is of none
below_16 : (is_digit : Bool) (value digit : ℕ) → value ≡ cond is_digit digit 255 → value < 16 → Some value ≡ cond is_digit (Some digit) None
below_16 true value digit is small = ap Some is
below_16 false value digit is small = absurd (omega (arith, is))

from_16 : (is_digit : Bool) (value digit : ℕ) → value ≡ cond is_digit digit 255 → (is_digit ≡ true → digit < 16) → 16 ≤ value
    → None ≡ cond is_digit (Some digit) None
from_16 true value digit is low large = let small = low refl in absurd (omega (arith, is, small))
from_16 false value digit is low large = refl

pub read_below_16 : (c : ℕ) → c < 256 → get_or DIGIT_VALUES c 0 < 16
    → Some (get_or DIGIT_VALUES c 0) ≡ cond (is_hex_digit c) (Some (digit_value c)) None
read_below_16 c fits small = below_16 (is_hex_digit c) (get_or DIGIT_VALUES c 0) (digit_value c) (value_at c fits) small

pub read_from_16 : (c : ℕ) → c < 256 → 16 ≤ get_or DIGIT_VALUES c 0 → None ≡ cond (is_hex_digit c) (Some (digit_value c)) None
read_from_16 c fits large =
    from_16 (is_hex_digit c) (get_or DIGIT_VALUES c 0) (digit_value c) (value_at c fits) (hex_digit_value_small c) large
