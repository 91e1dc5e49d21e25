-- Where an instruction's word has its registers and its immediate
-- (RISC-V Unprivileged ISA, section "Base Instruction Formats" and "Immediate Encoding Variants").
use Rattle.std.specs.Prelude.{ℕ, ◌+◌, ◌-◌, ◌*◌, ◌/◌, ◌%◌, ◌^◌, if◌then◌else◌, nat_lt, ℤ, pos, ◌-ℤ◌}

-- the bits of w from bit `low` on, so many of them
abbrev pub field : ℕ → ℕ → ℕ → ℕ
field low count w = (w / 2 ^ low) % 2 ^ count

-- the registers: bits 11..7, 19..15 and 24..20
abbrev pub rd : ℕ → ℕ
rd w = field 7 5 w

abbrev pub rs1 : ℕ → ℕ
rs1 w = field 15 5 w

abbrev pub rs2 : ℕ → ℕ
rs2 w = field 20 5 w

-- distances of shifts: bits 25..20, and of shifts on words bits 24..20
abbrev pub shamt : ℕ → ℕ
shamt w = field 20 6 w

abbrev pub shamt_32 : ℕ → ℕ
shamt_32 w = field 20 5 w

-- the signed number that so many bits stand for: where the highest is set, 2 ^ count less
abbrev pub sign_extended : ℕ → ℕ → ℤ
sign_extended count n = if nat_lt n (2 ^ (count - 1)) then pos n else (pos n -ℤ pos (2 ^ count))

-- I: bits 31..20
abbrev pub imm_i : ℕ → ℤ
imm_i w = sign_extended 12 (field 20 12 w)

-- S: bits 31..25 and 11..7
abbrev pub imm_s : ℕ → ℤ
imm_s w = sign_extended 12 (field 25 7 w * 2 ^ 5 + field 7 5 w)

-- B: bit 31, bit 7, bits 30..25 and 11..8, doubled
abbrev pub imm_b : ℕ → ℤ
imm_b w = sign_extended 13 (field 31 1 w * 2 ^ 12 + field 7 1 w * 2 ^ 11 + field 25 6 w * 2 ^ 5 + field 8 4 w * 2)

-- U: bits 31..12, followed by twelve zeros
abbrev pub imm_u : ℕ → ℤ
imm_u w = sign_extended 32 (field 12 20 w * 2 ^ 12)

-- J: bit 31, bits 19..12, bit 20 and bits 30..21, doubled
abbrev pub imm_j : ℕ → ℤ
imm_j w = sign_extended 21 (field 31 1 w * 2 ^ 20 + field 12 8 w * 2 ^ 12 + field 20 1 w * 2 ^ 11 + field 21 10 w * 2)

-- FENCE: the mode in bits 31..28, the sets of accesses before it in 27..24 and after it in 23..20
abbrev pub fence_mode : ℕ → ℕ
fence_mode w = field 28 4 w

abbrev pub predecessors : ℕ → ℕ
predecessors w = field 24 4 w

abbrev pub successors : ℕ → ℕ
successors w = field 20 4 w
