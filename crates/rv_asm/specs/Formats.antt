-- The formats of words: what stands in which field (RISC-V Unprivileged ISA, section "Base Instruction Formats").
use Rattle.std.specs.Prelude.{◌≡◌, ℕ, ℤ}
use Rattle.rv_inst.specs.Fields.{field, rd, rs1, rs2, shamt, imm_i, imm_s, imm_b, imm_u, imm_j, fence_mode, predecessors, successors}
use Rattle.rv_decode.specs.Selectors.{opcode, funct3, funct5, funct6}

-- the six fields that make up a word
pub record IsLaidOut (w op low f3 first second high : ℕ) : Type 0 where
  pub opcode_is : opcode w ≡ op
  pub low_is : field 7 5 w ≡ low
  pub funct3_is : funct3 w ≡ f3
  pub first_is : field 15 5 w ≡ first
  pub second_is : field 20 5 w ≡ second
  pub high_is : field 25 7 w ≡ high

-- I: rd, rs1 and an immediate
pub record IsFormatI (w op f3 a b : ℕ) (imm : ℤ) : Type 0 where
  pub opcode_is : opcode w ≡ op
  pub funct3_is : funct3 w ≡ f3
  pub rd_is : rd w ≡ a
  pub rs1_is : rs1 w ≡ b
  pub imm_is : imm_i w ≡ imm

-- S: rs1, rs2 and an immediate
pub record IsFormatS (w op f3 a b : ℕ) (imm : ℤ) : Type 0 where
  pub opcode_is : opcode w ≡ op
  pub funct3_is : funct3 w ≡ f3
  pub rs1_is : rs1 w ≡ a
  pub rs2_is : rs2 w ≡ b
  pub imm_is : imm_s w ≡ imm

-- B: rs1, rs2 and a distance
pub record IsFormatB (w op f3 a b : ℕ) (imm : ℤ) : Type 0 where
  pub opcode_is : opcode w ≡ op
  pub funct3_is : funct3 w ≡ f3
  pub rs1_is : rs1 w ≡ a
  pub rs2_is : rs2 w ≡ b
  pub imm_is : imm_b w ≡ imm

-- U: rd and an immediate
pub record IsFormatU (w op a : ℕ) (imm : ℤ) : Type 0 where
  pub opcode_is : opcode w ≡ op
  pub rd_is : rd w ≡ a
  pub imm_is : imm_u w ≡ imm

-- J: rd and a distance
pub record IsFormatJ (w op a : ℕ) (imm : ℤ) : Type 0 where
  pub opcode_is : opcode w ≡ op
  pub rd_is : rd w ≡ a
  pub imm_is : imm_j w ≡ imm

-- a shift of 64 bits: its distance has six bits, and the six above select the row
pub record IsShift (w op f3 f6 a b distance : ℕ) : Type 0 where
  pub opcode_is : opcode w ≡ op
  pub funct3_is : funct3 w ≡ f3
  pub funct6_is : funct6 w ≡ f6
  pub rd_is : rd w ≡ a
  pub rs1_is : rs1 w ≡ b
  pub shamt_is : shamt w ≡ distance

-- FENCE, with rd and rs1 zero
pub record IsFence (w fm before after : ℕ) : Type 0 where
  pub opcode_is : opcode w ≡ 0x0f
  pub funct3_is : funct3 w ≡ 0
  pub rd_is : rd w ≡ 0
  pub rs1_is : rs1 w ≡ 0
  pub mode_is : fence_mode w ≡ fm
  pub before_is : predecessors w ≡ before
  pub after_is : successors w ≡ after

-- an A instruction, with aq and rl zero
pub record IsAtomic (w f3 f5 a b c : ℕ) : Type 0 where
  pub opcode_is : opcode w ≡ 0x2f
  pub funct3_is : funct3 w ≡ f3
  pub funct5_is : funct5 w ≡ f5
  pub order_is : field 25 2 w ≡ 0
  pub rd_is : rd w ≡ a
  pub rs1_is : rs1 w ≡ b
  pub rs2_is : rs2 w ≡ c
