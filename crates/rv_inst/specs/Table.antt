-- The table of the encodings (RISC-V Unprivileged ISA, chapter "RV32/64G Instruction Set Listings"): a word is that
-- of a row exactly where its bits under the row's mask are the row's match. The groups are the major opcodes, bits 6..0.
use Rattle.std.specs.Prelude.{ℕ, ◌==◌, ◌≤◌, Bool, if◌then◌else◌, List, [], ◌∷◌, ◌++◌, Option, Some, None, bit_and, count_by}
use Rattle.rv_inst.specs.declared.instruction.Inst.{Inst}
use Rattle.rv_inst.specs.declared.instruction.Inst.TheVariants as inst
use Rattle.rv_inst.specs.Fields.{rd, rs1, rs2, shamt, shamt_32, imm_i, imm_s, imm_b, imm_u, imm_j, fence_mode, predecessors, successors}

-- a row: which bits are fixed, what they are, and the instruction with the fields that it has in a word
pub record Row : Type 0 where
  pub mask : ℕ
  pub match : ℕ
  pub read : ℕ → Inst

abbrev pub row : ℕ → ℕ → (ℕ → Inst) → Row
row mask match read = record { mask = mask; match = match; read = read }

-- whether a word is of a row
abbrev pub is_of_row : ℕ → Row → Bool
is_of_row w r = bit_and w r.mask == r.match

-- the instruction of the first row that a word is of
abbrev pub first_row : List Row → ℕ → Option Inst
first_row [] w = None
first_row (r ∷ rest) w = if is_of_row w r then Some (r.read w) else first_row rest w

-- LUI
unfoldable pub lui_rows : List Row
lui_rows =
    row 0x7f 0x37 (λ w. inst.Lui (rd w) (imm_u w)) ∷
    []

-- AUIPC
unfoldable pub auipc_rows : List Row
auipc_rows =
    row 0x7f 0x17 (λ w. inst.Auipc (rd w) (imm_u w)) ∷
    []

-- JAL
unfoldable pub jal_rows : List Row
jal_rows =
    row 0x7f 0x6f (λ w. inst.Jal (rd w) (imm_j w)) ∷
    []

-- JALR
unfoldable pub jalr_rows : List Row
jalr_rows =
    row 0x707f 0x67 (λ w. inst.Jalr (rd w) (rs1 w) (imm_i w)) ∷
    []

-- BRANCH
unfoldable pub branch_rows : List Row
branch_rows =
    row 0x707f 0x63 (λ w. inst.Beq (rs1 w) (rs2 w) (imm_b w)) ∷
    row 0x707f 0x1063 (λ w. inst.Bne (rs1 w) (rs2 w) (imm_b w)) ∷
    row 0x707f 0x4063 (λ w. inst.Blt (rs1 w) (rs2 w) (imm_b w)) ∷
    row 0x707f 0x5063 (λ w. inst.Bge (rs1 w) (rs2 w) (imm_b w)) ∷
    row 0x707f 0x6063 (λ w. inst.Bltu (rs1 w) (rs2 w) (imm_b w)) ∷
    row 0x707f 0x7063 (λ w. inst.Bgeu (rs1 w) (rs2 w) (imm_b w)) ∷
    []

-- LOAD
unfoldable pub load_rows : List Row
load_rows =
    row 0x707f 0x3 (λ w. inst.Lb (rd w) (rs1 w) (imm_i w)) ∷
    row 0x707f 0x1003 (λ w. inst.Lh (rd w) (rs1 w) (imm_i w)) ∷
    row 0x707f 0x2003 (λ w. inst.Lw (rd w) (rs1 w) (imm_i w)) ∷
    row 0x707f 0x3003 (λ w. inst.Ld (rd w) (rs1 w) (imm_i w)) ∷
    row 0x707f 0x4003 (λ w. inst.Lbu (rd w) (rs1 w) (imm_i w)) ∷
    row 0x707f 0x5003 (λ w. inst.Lhu (rd w) (rs1 w) (imm_i w)) ∷
    row 0x707f 0x6003 (λ w. inst.Lwu (rd w) (rs1 w) (imm_i w)) ∷
    []

-- STORE
unfoldable pub store_rows : List Row
store_rows =
    row 0x707f 0x23 (λ w. inst.Sb (rs1 w) (rs2 w) (imm_s w)) ∷
    row 0x707f 0x1023 (λ w. inst.Sh (rs1 w) (rs2 w) (imm_s w)) ∷
    row 0x707f 0x2023 (λ w. inst.Sw (rs1 w) (rs2 w) (imm_s w)) ∷
    row 0x707f 0x3023 (λ w. inst.Sd (rs1 w) (rs2 w) (imm_s w)) ∷
    []

-- OP-IMM
unfoldable pub op_imm_rows : List Row
op_imm_rows =
    row 0x707f 0x13 (λ w. inst.Addi (rd w) (rs1 w) (imm_i w)) ∷
    row 0x707f 0x2013 (λ w. inst.Slti (rd w) (rs1 w) (imm_i w)) ∷
    row 0x707f 0x3013 (λ w. inst.Sltiu (rd w) (rs1 w) (imm_i w)) ∷
    row 0x707f 0x4013 (λ w. inst.Xori (rd w) (rs1 w) (imm_i w)) ∷
    row 0x707f 0x6013 (λ w. inst.Ori (rd w) (rs1 w) (imm_i w)) ∷
    row 0x707f 0x7013 (λ w. inst.Andi (rd w) (rs1 w) (imm_i w)) ∷
    row 0xfc00707f 0x1013 (λ w. inst.Slli (rd w) (rs1 w) (shamt w)) ∷
    row 0xfc00707f 0x5013 (λ w. inst.Srli (rd w) (rs1 w) (shamt w)) ∷
    row 0xfc00707f 0x40005013 (λ w. inst.Srai (rd w) (rs1 w) (shamt w)) ∷
    []

-- OP-IMM-32
unfoldable pub op_imm_32_rows : List Row
op_imm_32_rows =
    row 0x707f 0x1b (λ w. inst.Addiw (rd w) (rs1 w) (imm_i w)) ∷
    row 0xfe00707f 0x101b (λ w. inst.Slliw (rd w) (rs1 w) (shamt_32 w)) ∷
    row 0xfe00707f 0x501b (λ w. inst.Srliw (rd w) (rs1 w) (shamt_32 w)) ∷
    row 0xfe00707f 0x4000501b (λ w. inst.Sraiw (rd w) (rs1 w) (shamt_32 w)) ∷
    []

-- OP
unfoldable pub op_rows : List Row
op_rows =
    row 0xfe00707f 0x33 (λ w. inst.Add (rd w) (rs1 w) (rs2 w)) ∷
    row 0xfe00707f 0x40000033 (λ w. inst.Sub (rd w) (rs1 w) (rs2 w)) ∷
    row 0xfe00707f 0x1033 (λ w. inst.Sll (rd w) (rs1 w) (rs2 w)) ∷
    row 0xfe00707f 0x2033 (λ w. inst.Slt (rd w) (rs1 w) (rs2 w)) ∷
    row 0xfe00707f 0x3033 (λ w. inst.Sltu (rd w) (rs1 w) (rs2 w)) ∷
    row 0xfe00707f 0x4033 (λ w. inst.Xor (rd w) (rs1 w) (rs2 w)) ∷
    row 0xfe00707f 0x5033 (λ w. inst.Srl (rd w) (rs1 w) (rs2 w)) ∷
    row 0xfe00707f 0x40005033 (λ w. inst.Sra (rd w) (rs1 w) (rs2 w)) ∷
    row 0xfe00707f 0x6033 (λ w. inst.Or (rd w) (rs1 w) (rs2 w)) ∷
    row 0xfe00707f 0x7033 (λ w. inst.And (rd w) (rs1 w) (rs2 w)) ∷
    row 0xfe00707f 0x2000033 (λ w. inst.Mul (rd w) (rs1 w) (rs2 w)) ∷
    row 0xfe00707f 0x2001033 (λ w. inst.Mulh (rd w) (rs1 w) (rs2 w)) ∷
    row 0xfe00707f 0x2002033 (λ w. inst.Mulhsu (rd w) (rs1 w) (rs2 w)) ∷
    row 0xfe00707f 0x2003033 (λ w. inst.Mulhu (rd w) (rs1 w) (rs2 w)) ∷
    row 0xfe00707f 0x2004033 (λ w. inst.Div (rd w) (rs1 w) (rs2 w)) ∷
    row 0xfe00707f 0x2005033 (λ w. inst.Divu (rd w) (rs1 w) (rs2 w)) ∷
    row 0xfe00707f 0x2006033 (λ w. inst.Rem (rd w) (rs1 w) (rs2 w)) ∷
    row 0xfe00707f 0x2007033 (λ w. inst.Remu (rd w) (rs1 w) (rs2 w)) ∷
    []

-- OP-32
unfoldable pub op_32_rows : List Row
op_32_rows =
    row 0xfe00707f 0x3b (λ w. inst.Addw (rd w) (rs1 w) (rs2 w)) ∷
    row 0xfe00707f 0x4000003b (λ w. inst.Subw (rd w) (rs1 w) (rs2 w)) ∷
    row 0xfe00707f 0x103b (λ w. inst.Sllw (rd w) (rs1 w) (rs2 w)) ∷
    row 0xfe00707f 0x503b (λ w. inst.Srlw (rd w) (rs1 w) (rs2 w)) ∷
    row 0xfe00707f 0x4000503b (λ w. inst.Sraw (rd w) (rs1 w) (rs2 w)) ∷
    row 0xfe00707f 0x200003b (λ w. inst.Mulw (rd w) (rs1 w) (rs2 w)) ∷
    row 0xfe00707f 0x200403b (λ w. inst.Divw (rd w) (rs1 w) (rs2 w)) ∷
    row 0xfe00707f 0x200503b (λ w. inst.Divuw (rd w) (rs1 w) (rs2 w)) ∷
    row 0xfe00707f 0x200603b (λ w. inst.Remw (rd w) (rs1 w) (rs2 w)) ∷
    row 0xfe00707f 0x200703b (λ w. inst.Remuw (rd w) (rs1 w) (rs2 w)) ∷
    []

-- MISC-MEM
unfoldable pub misc_mem_rows : List Row
misc_mem_rows =
    row 0x707f 0xf (λ w. inst.Fence (fence_mode w) (predecessors w) (successors w)) ∷
    row 0x707f 0x100f (λ _. inst.FenceI) ∷
    []

-- AMO
unfoldable pub amo_rows : List Row
amo_rows =
    row 0xf9f0707f 0x1000202f (λ w. inst.LrW (rd w) (rs1 w)) ∷
    row 0xf800707f 0x1800202f (λ w. inst.ScW (rd w) (rs1 w) (rs2 w)) ∷
    row 0xf800707f 0x800202f (λ w. inst.AmoSwapW (rd w) (rs1 w) (rs2 w)) ∷
    row 0xf800707f 0x202f (λ w. inst.AmoAddW (rd w) (rs1 w) (rs2 w)) ∷
    row 0xf800707f 0x2000202f (λ w. inst.AmoXorW (rd w) (rs1 w) (rs2 w)) ∷
    row 0xf800707f 0x6000202f (λ w. inst.AmoAndW (rd w) (rs1 w) (rs2 w)) ∷
    row 0xf800707f 0x4000202f (λ w. inst.AmoOrW (rd w) (rs1 w) (rs2 w)) ∷
    row 0xf800707f 0x8000202f (λ w. inst.AmoMinW (rd w) (rs1 w) (rs2 w)) ∷
    row 0xf800707f 0xa000202f (λ w. inst.AmoMaxW (rd w) (rs1 w) (rs2 w)) ∷
    row 0xf800707f 0xc000202f (λ w. inst.AmoMinuW (rd w) (rs1 w) (rs2 w)) ∷
    row 0xf800707f 0xe000202f (λ w. inst.AmoMaxuW (rd w) (rs1 w) (rs2 w)) ∷
    row 0xf9f0707f 0x1000302f (λ w. inst.LrD (rd w) (rs1 w)) ∷
    row 0xf800707f 0x1800302f (λ w. inst.ScD (rd w) (rs1 w) (rs2 w)) ∷
    row 0xf800707f 0x800302f (λ w. inst.AmoSwapD (rd w) (rs1 w) (rs2 w)) ∷
    row 0xf800707f 0x302f (λ w. inst.AmoAddD (rd w) (rs1 w) (rs2 w)) ∷
    row 0xf800707f 0x2000302f (λ w. inst.AmoXorD (rd w) (rs1 w) (rs2 w)) ∷
    row 0xf800707f 0x6000302f (λ w. inst.AmoAndD (rd w) (rs1 w) (rs2 w)) ∷
    row 0xf800707f 0x4000302f (λ w. inst.AmoOrD (rd w) (rs1 w) (rs2 w)) ∷
    row 0xf800707f 0x8000302f (λ w. inst.AmoMinD (rd w) (rs1 w) (rs2 w)) ∷
    row 0xf800707f 0xa000302f (λ w. inst.AmoMaxD (rd w) (rs1 w) (rs2 w)) ∷
    row 0xf800707f 0xc000302f (λ w. inst.AmoMinuD (rd w) (rs1 w) (rs2 w)) ∷
    row 0xf800707f 0xe000302f (λ w. inst.AmoMaxuD (rd w) (rs1 w) (rs2 w)) ∷
    []

-- SYSTEM
unfoldable pub system_rows : List Row
system_rows =
    row 0xffffffff 0x73 (λ _. inst.Ecall) ∷
    row 0xffffffff 0x100073 (λ _. inst.Ebreak) ∷
    []

-- all rows; what opens this opens the groups
unfoldable pub rows : List Row
unfolding lui_rows auipc_rows jal_rows jalr_rows branch_rows load_rows store_rows op_imm_rows op_imm_32_rows op_rows op_32_rows misc_mem_rows amo_rows system_rows
rows =
    lui_rows ++ auipc_rows ++ jal_rows ++ jalr_rows ++ branch_rows ++ load_rows ++ store_rows ++ op_imm_rows ++ op_imm_32_rows ++ op_rows ++ op_32_rows ++ misc_mem_rows ++ amo_rows ++ system_rows

-- the instruction that a word stands for; none where it is of no row
unfoldable pub row_of : ℕ → Option Inst
row_of w = first_row rows w

-- no word is of two rows, so that the order of the rows doesn't matter
abbrev pub IsUnambiguous : List Row → Type 0
IsUnambiguous table = (w : ℕ) → count_by (λ r. is_of_row w r) table ≤ 1
