-- The fields of a word that select its row
-- (RISC-V Unprivileged ISA, section "Base Instruction Formats", and chapter "A" Extension for funct5).
use Rattle.std.specs.Prelude.{ℕ}
use Rattle.rv_inst.specs.Fields.{field}

-- the major opcode, bits 6..0
abbrev pub opcode : ℕ → ℕ
opcode w = field 0 7 w

-- bits 14..12
abbrev pub funct3 : ℕ → ℕ
funct3 w = field 12 3 w

-- bits 31..25
abbrev pub funct7 : ℕ → ℕ
funct7 w = field 25 7 w

-- bits 31..26: of the shifts of 64 bits, whose distance takes bit 25
abbrev pub funct6 : ℕ → ℕ
funct6 w = field 26 6 w

-- bits 31..27: of the A instructions, whose bits 26 and 25 are aq and rl
abbrev pub funct5 : ℕ → ℕ
funct5 w = field 27 5 w
