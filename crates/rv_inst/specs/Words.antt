-- Words of 64 and 32 bits, and the signed numbers that they stand for in two's complement
-- (RISC-V Unprivileged ISA, chapter "RV64I Base Integer Instruction Set").
use Rattle.std.specs.Prelude.{ℕ, ◌+◌, ◌-◌, ◌*◌, ◌/◌, ◌%◌, ◌^◌, Bool, if◌then◌else◌, ℤ, int_lt}
use Rattle.std.specs.Int.{w32, w64, cast_signed, cast_unsigned, int_shr}

-- the signed number that a word of 64 bits stands for
abbrev pub signed : ℕ → ℤ
signed n = cast_signed w64 n

-- the word that stands for a number, from -2^63 to 2^64 - 1
abbrev pub word : ℤ → ℕ
word z = cast_unsigned w64 z

-- the low 32 bits, and the signed number that they stand for
abbrev pub low_32 : ℕ → ℕ
low_32 n = n % 2 ^ 32

abbrev pub signed_32 : ℕ → ℤ
signed_32 n = cast_signed w32 (low_32 n)

-- the low 32 bits, sign-extended to 64
abbrev pub sign_extended_32 : ℕ → ℕ
sign_extended_32 n = word (signed_32 n)

-- the low 64 bits of a sum, and of a difference: overflow is ignored
abbrev pub sum_64 : ℕ → ℕ → ℕ
sum_64 a b = (a + b) % 2 ^ 64

abbrev pub difference_64 : ℕ → ℕ → ℕ
difference_64 a b = (a + (2 ^ 64 - b)) % 2 ^ 64

-- 1 where a comparison holds, else 0
abbrev pub one_if : Bool → ℕ
one_if b = if b then 1 else 0

-- whether a is less than b, as signed numbers
abbrev pub is_less_signed : ℕ → ℕ → Bool
is_less_signed a b = int_lt (signed a) (signed b)

-- shifts by the low 6 bits of b: left; right with zeros; right with copies of the sign, so that the quotient by
-- the power of two is rounded down
abbrev pub shift_left : ℕ → ℕ → ℕ
shift_left a b = (a * 2 ^ (b % 64)) % 2 ^ 64

abbrev pub shift_right : ℕ → ℕ → ℕ
shift_right a b = a / 2 ^ (b % 64)

abbrev pub shift_right_signed : ℕ → ℕ → ℕ
shift_right_signed a b = word (int_shr (signed a) (b % 64))

-- the same on the low 32 bits, by the low 5 bits of b, sign-extended
abbrev pub shift_left_32 : ℕ → ℕ → ℕ
shift_left_32 a b = sign_extended_32 (a * 2 ^ (b % 32))

abbrev pub shift_right_32 : ℕ → ℕ → ℕ
shift_right_32 a b = sign_extended_32 (low_32 a / 2 ^ (b % 32))

abbrev pub shift_right_signed_32 : ℕ → ℕ → ℕ
shift_right_signed_32 a b = word (int_shr (signed_32 a) (b % 32))
