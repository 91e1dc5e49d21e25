-- What each instruction means, one equation each, over the registers and the pc
-- (RISC-V Unprivileged ISA, chapters RV32I, RV64I, "M", "A" and "Zifencei"). Registers hold words of 64 bits;
-- an immediate is added as the word that stands for it.
use Rattle.std.specs.Prelude.{ℕ, ◌-◌, ◌%◌, ◌==◌, Bool, true, false, not, if◌then◌else◌, nat_lt, bit_and, bit_or, bit_xor}
use Rattle.mach_types.specs.Registers.{register}
use Rattle.mach_types.specs.declared.registers.Regs.{Regs}
use Rattle.rv_inst.specs.declared.effects.AmoOp.TheVariants as op
use Rattle.rv_inst.specs.declared.effects.Effect.{Effect}
use Rattle.rv_inst.specs.declared.effects.Effect.TheVariants as effect
use Rattle.rv_inst.specs.declared.instruction.Inst.{Inst}
use Rattle.rv_inst.specs.declared.instruction.Inst.TheVariants as inst
use Rattle.rv_inst.specs.Words.{word, sum_64, difference_64, sign_extended_32, one_if, is_less_signed, shift_left, shift_right, shift_right_signed, shift_left_32, shift_right_32, shift_right_signed_32}
use Rattle.rv_inst.specs.Multiply.{product_low, product_high, product_high_mixed, product_high_unsigned, quotient, remainder, quotient_unsigned, remainder_unsigned, quotient_32, remainder_32, quotient_unsigned_32, remainder_unsigned_32}
use Rattle.rv_inst.specs.Memory.{low_bytes}
use Rattle.rv_inst.specs.Order.{is_full_fence}

-- a value goes into rd, and the hart goes on 4 bytes further
abbrev pub next : ℕ → ℕ → ℕ → Effect
next rd value pc = effect.Next rd value (sum_64 pc 4)

-- the hart goes on at a target, with a value in rd, where the target is a multiple of 4
abbrev pub go_to : ℕ → ℕ → ℕ → Effect
go_to rd value target = if target % 4 == 0 then effect.Next rd value target else effect.Misaligned

-- a jump: the address of the next instruction goes into rd
abbrev pub jump : ℕ → ℕ → ℕ → Effect
jump rd target pc = go_to rd (sum_64 pc 4) target

-- a branch: to its target where it is taken, else 4 bytes further; no register is written, so rd and value are 0
abbrev pub branch : Bool → ℕ → ℕ → Effect
branch is_taken target pc = if is_taken then go_to 0 0 target else next 0 0 pc

-- JALR's target: its least-significant bit is set to zero
abbrev pub without_bit_0 : ℕ → ℕ
without_bit_0 n = n - n % 2

unfoldable pub meaning : Inst → Regs → ℕ → Effect
-- RV64I: upper immediates, jumps and branches
meaning (inst.Lui rd imm) r pc = next rd (word imm) pc
meaning (inst.Auipc rd imm) r pc = next rd (sum_64 pc (word imm)) pc
meaning (inst.Jal rd imm) r pc = jump rd (sum_64 pc (word imm)) pc
meaning (inst.Jalr rd rs1 imm) r pc = jump rd (without_bit_0 (sum_64 (register r rs1) (word imm))) pc
meaning (inst.Beq rs1 rs2 imm) r pc = branch ((register r rs1) == (register r rs2)) (sum_64 pc (word imm)) pc
meaning (inst.Bne rs1 rs2 imm) r pc = branch (not ((register r rs1) == (register r rs2))) (sum_64 pc (word imm)) pc
meaning (inst.Blt rs1 rs2 imm) r pc = branch (is_less_signed (register r rs1) (register r rs2)) (sum_64 pc (word imm)) pc
meaning (inst.Bge rs1 rs2 imm) r pc = branch (not (is_less_signed (register r rs1) (register r rs2))) (sum_64 pc (word imm)) pc
meaning (inst.Bltu rs1 rs2 imm) r pc = branch (nat_lt (register r rs1) (register r rs2)) (sum_64 pc (word imm)) pc
meaning (inst.Bgeu rs1 rs2 imm) r pc = branch (not (nat_lt (register r rs1) (register r rs2))) (sum_64 pc (word imm)) pc
-- RV64I: loads and stores
meaning (inst.Lb rd rs1 imm) r pc = effect.Load (sum_64 (register r rs1) (word imm)) 1 true rd
meaning (inst.Lh rd rs1 imm) r pc = effect.Load (sum_64 (register r rs1) (word imm)) 2 true rd
meaning (inst.Lw rd rs1 imm) r pc = effect.Load (sum_64 (register r rs1) (word imm)) 4 true rd
meaning (inst.Ld rd rs1 imm) r pc = effect.Load (sum_64 (register r rs1) (word imm)) 8 true rd
meaning (inst.Lbu rd rs1 imm) r pc = effect.Load (sum_64 (register r rs1) (word imm)) 1 false rd
meaning (inst.Lhu rd rs1 imm) r pc = effect.Load (sum_64 (register r rs1) (word imm)) 2 false rd
meaning (inst.Lwu rd rs1 imm) r pc = effect.Load (sum_64 (register r rs1) (word imm)) 4 false rd
meaning (inst.Sb rs1 rs2 imm) r pc = effect.Store (sum_64 (register r rs1) (word imm)) 1 (low_bytes 1 (register r rs2))
meaning (inst.Sh rs1 rs2 imm) r pc = effect.Store (sum_64 (register r rs1) (word imm)) 2 (low_bytes 2 (register r rs2))
meaning (inst.Sw rs1 rs2 imm) r pc = effect.Store (sum_64 (register r rs1) (word imm)) 4 (low_bytes 4 (register r rs2))
meaning (inst.Sd rs1 rs2 imm) r pc = effect.Store (sum_64 (register r rs1) (word imm)) 8 (low_bytes 8 (register r rs2))
-- RV64I: integer computation with an immediate
meaning (inst.Addi rd rs1 imm) r pc = next rd (sum_64 (register r rs1) (word imm)) pc
meaning (inst.Slti rd rs1 imm) r pc = next rd (one_if (is_less_signed (register r rs1) (word imm))) pc
meaning (inst.Sltiu rd rs1 imm) r pc = next rd (one_if (nat_lt (register r rs1) (word imm))) pc
meaning (inst.Xori rd rs1 imm) r pc = next rd (bit_xor (register r rs1) (word imm)) pc
meaning (inst.Ori rd rs1 imm) r pc = next rd (bit_or (register r rs1) (word imm)) pc
meaning (inst.Andi rd rs1 imm) r pc = next rd (bit_and (register r rs1) (word imm)) pc
meaning (inst.Slli rd rs1 shamt) r pc = next rd (shift_left (register r rs1) shamt) pc
meaning (inst.Srli rd rs1 shamt) r pc = next rd (shift_right (register r rs1) shamt) pc
meaning (inst.Srai rd rs1 shamt) r pc = next rd (shift_right_signed (register r rs1) shamt) pc
meaning (inst.Addiw rd rs1 imm) r pc = next rd (sign_extended_32 (sum_64 (register r rs1) (word imm))) pc
meaning (inst.Slliw rd rs1 shamt) r pc = next rd (shift_left_32 (register r rs1) shamt) pc
meaning (inst.Srliw rd rs1 shamt) r pc = next rd (shift_right_32 (register r rs1) shamt) pc
meaning (inst.Sraiw rd rs1 shamt) r pc = next rd (shift_right_signed_32 (register r rs1) shamt) pc
-- RV64I: integer computation with registers
meaning (inst.Add rd rs1 rs2) r pc = next rd (sum_64 (register r rs1) (register r rs2)) pc
meaning (inst.Sub rd rs1 rs2) r pc = next rd (difference_64 (register r rs1) (register r rs2)) pc
meaning (inst.Sll rd rs1 rs2) r pc = next rd (shift_left (register r rs1) (register r rs2)) pc
meaning (inst.Slt rd rs1 rs2) r pc = next rd (one_if (is_less_signed (register r rs1) (register r rs2))) pc
meaning (inst.Sltu rd rs1 rs2) r pc = next rd (one_if (nat_lt (register r rs1) (register r rs2))) pc
meaning (inst.Xor rd rs1 rs2) r pc = next rd (bit_xor (register r rs1) (register r rs2)) pc
meaning (inst.Srl rd rs1 rs2) r pc = next rd (shift_right (register r rs1) (register r rs2)) pc
meaning (inst.Sra rd rs1 rs2) r pc = next rd (shift_right_signed (register r rs1) (register r rs2)) pc
meaning (inst.Or rd rs1 rs2) r pc = next rd (bit_or (register r rs1) (register r rs2)) pc
meaning (inst.And rd rs1 rs2) r pc = next rd (bit_and (register r rs1) (register r rs2)) pc
-- M: multiplication and division
meaning (inst.Mul rd rs1 rs2) r pc = next rd (product_low (register r rs1) (register r rs2)) pc
meaning (inst.Mulh rd rs1 rs2) r pc = next rd (product_high (register r rs1) (register r rs2)) pc
meaning (inst.Mulhsu rd rs1 rs2) r pc = next rd (product_high_mixed (register r rs1) (register r rs2)) pc
meaning (inst.Mulhu rd rs1 rs2) r pc = next rd (product_high_unsigned (register r rs1) (register r rs2)) pc
meaning (inst.Div rd rs1 rs2) r pc = next rd (quotient (register r rs1) (register r rs2)) pc
meaning (inst.Divu rd rs1 rs2) r pc = next rd (quotient_unsigned (register r rs1) (register r rs2)) pc
meaning (inst.Rem rd rs1 rs2) r pc = next rd (remainder (register r rs1) (register r rs2)) pc
meaning (inst.Remu rd rs1 rs2) r pc = next rd (remainder_unsigned (register r rs1) (register r rs2)) pc
-- RV64I and M on words
meaning (inst.Addw rd rs1 rs2) r pc = next rd (sign_extended_32 (sum_64 (register r rs1) (register r rs2))) pc
meaning (inst.Subw rd rs1 rs2) r pc = next rd (sign_extended_32 (difference_64 (register r rs1) (register r rs2))) pc
meaning (inst.Sllw rd rs1 rs2) r pc = next rd (shift_left_32 (register r rs1) (register r rs2)) pc
meaning (inst.Srlw rd rs1 rs2) r pc = next rd (shift_right_32 (register r rs1) (register r rs2)) pc
meaning (inst.Sraw rd rs1 rs2) r pc = next rd (shift_right_signed_32 (register r rs1) (register r rs2)) pc
meaning (inst.Mulw rd rs1 rs2) r pc = next rd (sign_extended_32 (product_low (register r rs1) (register r rs2))) pc
meaning (inst.Divw rd rs1 rs2) r pc = next rd (quotient_32 (register r rs1) (register r rs2)) pc
meaning (inst.Divuw rd rs1 rs2) r pc = next rd (quotient_unsigned_32 (register r rs1) (register r rs2)) pc
meaning (inst.Remw rd rs1 rs2) r pc = next rd (remainder_32 (register r rs1) (register r rs2)) pc
meaning (inst.Remuw rd rs1 rs2) r pc = next rd (remainder_unsigned_32 (register r rs1) (register r rs2)) pc
-- RV64I and Zifencei: order
meaning (inst.Fence fm pred succ) r pc = effect.Fence (is_full_fence fm pred succ)
meaning inst.FenceI r pc = effect.FenceI
-- A on words
meaning (inst.LrW rd rs1) r pc = effect.Lr (register r rs1) 4 rd
meaning (inst.ScW rd rs1 rs2) r pc = effect.Sc (register r rs1) 4 (low_bytes 4 (register r rs2)) rd
meaning (inst.AmoSwapW rd rs1 rs2) r pc = effect.Amo op.Swap (register r rs1) 4 (low_bytes 4 (register r rs2)) rd
meaning (inst.AmoAddW rd rs1 rs2) r pc = effect.Amo op.Add (register r rs1) 4 (low_bytes 4 (register r rs2)) rd
meaning (inst.AmoXorW rd rs1 rs2) r pc = effect.Amo op.Xor (register r rs1) 4 (low_bytes 4 (register r rs2)) rd
meaning (inst.AmoAndW rd rs1 rs2) r pc = effect.Amo op.And (register r rs1) 4 (low_bytes 4 (register r rs2)) rd
meaning (inst.AmoOrW rd rs1 rs2) r pc = effect.Amo op.Or (register r rs1) 4 (low_bytes 4 (register r rs2)) rd
meaning (inst.AmoMinW rd rs1 rs2) r pc = effect.Amo op.Min (register r rs1) 4 (low_bytes 4 (register r rs2)) rd
meaning (inst.AmoMaxW rd rs1 rs2) r pc = effect.Amo op.Max (register r rs1) 4 (low_bytes 4 (register r rs2)) rd
meaning (inst.AmoMinuW rd rs1 rs2) r pc = effect.Amo op.MinU (register r rs1) 4 (low_bytes 4 (register r rs2)) rd
meaning (inst.AmoMaxuW rd rs1 rs2) r pc = effect.Amo op.MaxU (register r rs1) 4 (low_bytes 4 (register r rs2)) rd
-- A on doublewords
meaning (inst.LrD rd rs1) r pc = effect.Lr (register r rs1) 8 rd
meaning (inst.ScD rd rs1 rs2) r pc = effect.Sc (register r rs1) 8 (low_bytes 8 (register r rs2)) rd
meaning (inst.AmoSwapD rd rs1 rs2) r pc = effect.Amo op.Swap (register r rs1) 8 (low_bytes 8 (register r rs2)) rd
meaning (inst.AmoAddD rd rs1 rs2) r pc = effect.Amo op.Add (register r rs1) 8 (low_bytes 8 (register r rs2)) rd
meaning (inst.AmoXorD rd rs1 rs2) r pc = effect.Amo op.Xor (register r rs1) 8 (low_bytes 8 (register r rs2)) rd
meaning (inst.AmoAndD rd rs1 rs2) r pc = effect.Amo op.And (register r rs1) 8 (low_bytes 8 (register r rs2)) rd
meaning (inst.AmoOrD rd rs1 rs2) r pc = effect.Amo op.Or (register r rs1) 8 (low_bytes 8 (register r rs2)) rd
meaning (inst.AmoMinD rd rs1 rs2) r pc = effect.Amo op.Min (register r rs1) 8 (low_bytes 8 (register r rs2)) rd
meaning (inst.AmoMaxD rd rs1 rs2) r pc = effect.Amo op.Max (register r rs1) 8 (low_bytes 8 (register r rs2)) rd
meaning (inst.AmoMinuD rd rs1 rs2) r pc = effect.Amo op.MinU (register r rs1) 8 (low_bytes 8 (register r rs2)) rd
meaning (inst.AmoMaxuD rd rs1 rs2) r pc = effect.Amo op.MaxU (register r rs1) 8 (low_bytes 8 (register r rs2)) rd
-- RV64I: environment
meaning inst.Ecall r pc = effect.Call
meaning inst.Ebreak r pc = effect.Break
