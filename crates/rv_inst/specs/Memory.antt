-- The bytes of a register that a store writes, what a load makes of the bytes that it reads, and what an AMO writes
-- (RISC-V Unprivileged ISA, section "Load and Store Instructions" and chapter "A" Extension).
use Rattle.std.specs.Prelude.{ℕ, ◌+◌, ◌%◌, ◌^◌, ◌==◌, Bool, if◌then◌else◌, bit_and, bit_or, bit_xor, ℤ, int_lt, min, max}
use Rattle.std.specs.Int.{Width, w8, w16, w32, w64, cast_signed}
use Rattle.rv_inst.specs.Words.{word}
use Rattle.rv_inst.specs.declared.effects.AmoOp.{AmoOp}
use Rattle.rv_inst.specs.declared.effects.AmoOp.TheVariants as op
use mir.Val.{bits}

-- the width of an access of 1, 2, 4 or 8 bytes; any other size counts as 8 (own)
abbrev pub access_width : ℕ → Width
access_width size = if size == 1 then w8 else if size == 2 then w16 else if size == 4 then w32 else w64

-- the low bytes of a number, as many as an access has, and the signed number that they stand for
abbrev pub low_bytes : ℕ → ℕ → ℕ
low_bytes size n = n % 2 ^ bits (access_width size)

abbrev pub signed_low : ℕ → ℕ → ℤ
signed_low size n = cast_signed (access_width size) (low_bytes size n)

-- what a load makes of the bytes that it read: sign-extended or zero-extended to 64 bits
abbrev pub loaded : ℕ → ℕ → Bool → ℕ
loaded raw size is_signed = if is_signed then word (signed_low size raw) else low_bytes size raw

-- what an AMO writes, of the old bytes in memory and the value of its register; of both the low bytes count alone
abbrev pub amo_result : AmoOp → ℕ → ℕ → ℕ → ℕ
amo_result op.Swap size old value = low_bytes size value
amo_result op.Add size old value = low_bytes size (old + value)
amo_result op.Xor size old value = bit_xor (low_bytes size old) (low_bytes size value)
amo_result op.And size old value = bit_and (low_bytes size old) (low_bytes size value)
amo_result op.Or size old value = bit_or (low_bytes size old) (low_bytes size value)
amo_result op.Min size old value = if int_lt (signed_low size value) (signed_low size old) then low_bytes size value else low_bytes size old
amo_result op.Max size old value = if int_lt (signed_low size old) (signed_low size value) then low_bytes size value else low_bytes size old
amo_result op.MinU size old value = min (low_bytes size old) (low_bytes size value)
amo_result op.MaxU size old value = max (low_bytes size old) (low_bytes size value)
