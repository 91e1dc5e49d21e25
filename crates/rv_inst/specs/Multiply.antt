-- Multiplication and division (RISC-V Unprivileged ISA, chapter "M" Extension).
use Rattle.std.specs.Prelude.{ℕ, ◌*◌, ◌/◌, ◌%◌, ◌^◌, ◌-◌, ◌==◌, if◌then◌else◌, pos, ◌*ℤ◌, int_div, int_rem}
use Rattle.std.specs.Int.{w32, cast_unsigned, int_shr}
use Rattle.rv_inst.specs.Words.{signed, word, low_32, signed_32, sign_extended_32}

-- MUL: the low 64 bits of the product, the same for signed and unsigned numbers
abbrev pub product_low : ℕ → ℕ → ℕ
product_low a b = (a * b) % 2 ^ 64

-- MULH, MULHSU and MULHU: the high 64 bits of the exact product of two signed numbers, of a signed and an
-- unsigned one, of two unsigned ones
abbrev pub product_high : ℕ → ℕ → ℕ
product_high a b = word (int_shr (signed a *ℤ signed b) 64)

abbrev pub product_high_mixed : ℕ → ℕ → ℕ
product_high_mixed a b = word (int_shr (signed a *ℤ pos b) 64)

abbrev pub product_high_unsigned : ℕ → ℕ → ℕ
product_high_unsigned a b = (a * b) / 2 ^ 64

-- DIV and REM: quotient and remainder of signed numbers, rounded towards zero. By zero the quotient has all
-- bits set and the remainder is the dividend. The quotient of -2^63 by -1 is 2^63, which the word of -2^63
-- stands for too; the remainder is 0
abbrev pub quotient : ℕ → ℕ → ℕ
quotient a b = if b == 0 then 2 ^ 64 - 1 else word (int_div (signed a) (signed b))

abbrev pub remainder : ℕ → ℕ → ℕ
remainder a b = if b == 0 then a else word (int_rem (signed a) (signed b))

-- DIVU and REMU
abbrev pub quotient_unsigned : ℕ → ℕ → ℕ
quotient_unsigned a b = if b == 0 then 2 ^ 64 - 1 else a / b

abbrev pub remainder_unsigned : ℕ → ℕ → ℕ
remainder_unsigned a b = if b == 0 then a else a % b

-- DIVW, REMW, DIVUW and REMUW: the same of the low 32 bits, the result sign-extended
abbrev pub quotient_32 : ℕ → ℕ → ℕ
quotient_32 a b = if low_32 b == 0 then 2 ^ 64 - 1 else sign_extended_32 (cast_unsigned w32 (int_div (signed_32 a) (signed_32 b)))

abbrev pub remainder_32 : ℕ → ℕ → ℕ
remainder_32 a b = if low_32 b == 0 then sign_extended_32 a else word (int_rem (signed_32 a) (signed_32 b))

abbrev pub quotient_unsigned_32 : ℕ → ℕ → ℕ
quotient_unsigned_32 a b = if low_32 b == 0 then 2 ^ 64 - 1 else sign_extended_32 (low_32 a / low_32 b)

abbrev pub remainder_unsigned_32 : ℕ → ℕ → ℕ
remainder_unsigned_32 a b = if low_32 b == 0 then sign_extended_32 a else sign_extended_32 (low_32 a % low_32 b)
