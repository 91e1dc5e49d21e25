-- What holds of the meaning of each row, whatever the registers and the pc are: the sizes of its accesses,
-- that the rows which touch registers alone set a register or fault by themselves, and that the pc stays a
-- word.
use Rattle.std.proofs.Common.{◌≡◌, ℕ, ◌+◌, ◌%◌, ◌^◌, ◌<◌, ◌==◌, ◌&&◌, Bool, true, false, not, nat_lt, Option, ℤ, cond, is_none, inl, inr, refl, if◌then◌else◌, arith}
use Rattle.std.proofs.Math.Nat.{mod-lt}
use Rattle.mach_types.specs.Bytes.{IsAccessSize}
use Rattle.mach_types.specs.Registers.{register}
use Rattle.mach_types.specs.declared.registers.Regs.{Regs}
use Rattle.rv_inst.specs.Class.{sets_register}
use Rattle.rv_inst.specs.Execution.{Outcome, outcome, fault_in, is_reserved}
use Rattle.rv_inst.specs.Local.{is_register_only}
use Rattle.rv_inst.specs.Meaning.{meaning, next, go_to, branch, without_bit_0}
use Rattle.rv_inst.specs.Sizes.{HasAccessSizes}
use Rattle.rv_inst.specs.Words.{sum_64, word, is_less_signed}
use Rattle.rv_inst.specs.declared.effects.AmoOp.{AmoOp}
use Rattle.rv_inst.specs.declared.effects.Effect.{Effect}
use Rattle.rv_inst.specs.declared.effects.Effect.TheVariants as effect
use Rattle.rv_inst.specs.declared.instruction.Inst.{Inst}
use Rattle.rv_inst.specs.declared.instruction.Inst.TheVariants as inst

-- one of two outcomes
pub either : (P : Outcome → Type 0) (b : Bool) (x y : Outcome) → P x → P y → P (cond b x y)
either P true x y p q = p
either P false x y p q = q

-- what holds of an effect that a row means at a pc, where the row touches registers alone or not
pub record IsGood (is_local : Bool) (pc : ℕ) (e : Effect) : Type 0 where
  pub sized : HasAccessSizes e
  pub local : (byte : ℕ → Option ℕ) (can_write : ℕ → Bool) →
      (is_local && is_none (fault_in byte can_write e)) ≡ sets_register e
  pub fits : (view : ℕ → Option ℕ) (regs : Regs) (reserved : Option ℕ) →
      pc < 2 ^ 64 → (outcome view regs pc reserved e).pc < 2 ^ 64

-- a sum of words is a word
in_word : (a b : ℕ) → sum_64 a b < 2 ^ 64
in_word a b = mod-lt (a + b) (omega arith)

even_below : (n : ℕ) → n < 2 ^ 64 → without_bit_0 n < 2 ^ 64
even_below n small = omega arith

good_next : (rd value pc : ℕ) → IsGood true pc (next rd value pc)
good_next rd value pc =
    record { sized = tt; local = λ byte can_write. refl; fits = λ view regs reserved small. in_word pc 4 }

good_go_to : (pc rd value target : ℕ) → target < 2 ^ 64 → IsGood true pc (go_to rd value target)
good_go_to pc rd value target below =
    elim (target % 4 == 0) as
    (λ b. IsGood true pc (if b then effect.Next rd value target else effect.Misaligned)) [
      | true ↦ record { sized = tt; local = λ byte can_write. refl; fits = λ view regs reserved small. below }
      | false ↦ record { sized = tt; local = λ byte can_write. refl; fits = λ v g z small. small }
    ]

good_branch : (is_taken : Bool) (target pc : ℕ) → target < 2 ^ 64 → IsGood true pc (branch is_taken target pc)
good_branch true target pc small = good_go_to pc 0 0 target small
good_branch false target pc small = good_next 0 0 pc

good_jump_if : (is_taken : Bool) (imm : ℤ) (pc : ℕ) →
    IsGood true pc (branch is_taken (sum_64 pc (word imm)) pc)
good_jump_if is_taken imm pc = good_branch is_taken (sum_64 pc (word imm)) pc (in_word pc (word imm))

-- an access of a size that accesses have
good_load : (pc : ℕ) (at size : ℕ) (is_signed : Bool) (rd : ℕ) → IsAccessSize size →
    IsGood false pc (effect.Load at size is_signed rd)
good_load pc at size is_signed rd is =
    record { sized = is; local = λ byte can_write. refl; fits = λ view regs reserved small. in_word pc 4 }

good_store : (pc : ℕ) (at size value : ℕ) → IsAccessSize size → IsGood false pc (effect.Store at size value)
good_store pc at size value is =
    record { sized = is; local = λ byte can_write. refl; fits = λ view regs reserved small. in_word pc 4 }

good_amo : (pc : ℕ) (op : AmoOp) (at size value rd : ℕ) → IsAccessSize size →
    IsGood false pc (effect.Amo op at size value rd)
good_amo pc op at size value rd is =
    record { sized = is; local = λ byte can_write. refl; fits = λ view regs reserved small. in_word pc 4 }

good_lr : (pc : ℕ) (at size rd : ℕ) → IsAccessSize size → IsGood false pc (effect.Lr at size rd)
good_lr pc at size rd is =
    record { sized = is; local = λ byte can_write. refl; fits = λ view regs reserved small. in_word pc 4 }

good_sc : (pc : ℕ) (at size value rd : ℕ) → IsAccessSize size → IsGood false pc (effect.Sc at size value rd)
good_sc pc at size value rd is = record {
  sized = is;
  local = λ byte can_write. refl;
  fits = λ view regs reserved small.
      either (λ o. o.pc < 2 ^ 64) (is_reserved reserved at) _ _ (in_word pc 4) (in_word pc 4);
}

good_fence : (pc : ℕ) (full : Bool) → IsGood false pc (effect.Fence full)
good_fence pc full =
    record { sized = tt; local = λ byte can_write. refl; fits = λ view regs reserved small. in_word pc 4 }

good_fence_i : (pc : ℕ) → IsGood false pc effect.FenceI
good_fence_i pc =
    record { sized = tt; local = λ byte can_write. refl; fits = λ view regs reserved small. in_word pc 4 }

good_call : (pc : ℕ) → IsGood false pc effect.Call
good_call pc = record { sized = tt; local = λ byte can_write. refl; fits = λ view regs reserved small. small }

good_break : (pc : ℕ) → IsGood false pc effect.Break
good_break pc =
    record { sized = tt; local = λ byte can_write. refl; fits = λ view regs reserved small. small }

one : IsAccessSize 1
one = inl refl

two : IsAccessSize 2
two = inr (inl refl)

four : IsAccessSize 4
four = inr (inr (inl refl))

eight : IsAccessSize 8
eight = inr (inr (inr refl))

pub good : (i : Inst) (r : Regs) (pc : ℕ) → IsGood (is_register_only i) pc (meaning i r pc)
unfolding meaning is_register_only
good (inst.Lui rd imm) r pc = good_next _ _ _
good (inst.Auipc rd imm) r pc = good_next _ _ _
good (inst.Jal rd imm) r pc = good_go_to pc rd (sum_64 pc 4) (sum_64 pc (word imm)) (in_word pc (word imm))
good (inst.Jalr rd rs1 imm) r pc =
    good_go_to pc rd (sum_64 pc 4) (without_bit_0 (sum_64 (register r rs1) (word imm)))
    (even_below _ (in_word (register r rs1) (word imm)))
good (inst.Beq rs1 rs2 imm) r pc = good_jump_if ((register r rs1) == (register r rs2)) imm pc
good (inst.Bne rs1 rs2 imm) r pc = good_jump_if (not ((register r rs1) == (register r rs2))) imm pc
good (inst.Blt rs1 rs2 imm) r pc = good_jump_if (is_less_signed (register r rs1) (register r rs2)) imm pc
good (inst.Bge rs1 rs2 imm) r pc =
    good_jump_if (not (is_less_signed (register r rs1) (register r rs2))) imm pc
good (inst.Bltu rs1 rs2 imm) r pc = good_jump_if (nat_lt (register r rs1) (register r rs2)) imm pc
good (inst.Bgeu rs1 rs2 imm) r pc = good_jump_if (not (nat_lt (register r rs1) (register r rs2))) imm pc
good (inst.Lb rd rs1 imm) r pc = good_load _ _ _ _ _ one
good (inst.Lh rd rs1 imm) r pc = good_load _ _ _ _ _ two
good (inst.Lw rd rs1 imm) r pc = good_load _ _ _ _ _ four
good (inst.Ld rd rs1 imm) r pc = good_load _ _ _ _ _ eight
good (inst.Lbu rd rs1 imm) r pc = good_load _ _ _ _ _ one
good (inst.Lhu rd rs1 imm) r pc = good_load _ _ _ _ _ two
good (inst.Lwu rd rs1 imm) r pc = good_load _ _ _ _ _ four
good (inst.Sb rs1 rs2 imm) r pc = good_store _ _ _ _ one
good (inst.Sh rs1 rs2 imm) r pc = good_store _ _ _ _ two
good (inst.Sw rs1 rs2 imm) r pc = good_store _ _ _ _ four
good (inst.Sd rs1 rs2 imm) r pc = good_store _ _ _ _ eight
good (inst.Addi rd rs1 imm) r pc = good_next _ _ _
good (inst.Slti rd rs1 imm) r pc = good_next _ _ _
good (inst.Sltiu rd rs1 imm) r pc = good_next _ _ _
good (inst.Xori rd rs1 imm) r pc = good_next _ _ _
good (inst.Ori rd rs1 imm) r pc = good_next _ _ _
good (inst.Andi rd rs1 imm) r pc = good_next _ _ _
good (inst.Slli rd rs1 shamt) r pc = good_next _ _ _
good (inst.Srli rd rs1 shamt) r pc = good_next _ _ _
good (inst.Srai rd rs1 shamt) r pc = good_next _ _ _
good (inst.Addiw rd rs1 imm) r pc = good_next _ _ _
good (inst.Slliw rd rs1 shamt) r pc = good_next _ _ _
good (inst.Srliw rd rs1 shamt) r pc = good_next _ _ _
good (inst.Sraiw rd rs1 shamt) r pc = good_next _ _ _
good (inst.Add rd rs1 rs2) r pc = good_next _ _ _
good (inst.Sub rd rs1 rs2) r pc = good_next _ _ _
good (inst.Sll rd rs1 rs2) r pc = good_next _ _ _
good (inst.Slt rd rs1 rs2) r pc = good_next _ _ _
good (inst.Sltu rd rs1 rs2) r pc = good_next _ _ _
good (inst.Xor rd rs1 rs2) r pc = good_next _ _ _
good (inst.Srl rd rs1 rs2) r pc = good_next _ _ _
good (inst.Sra rd rs1 rs2) r pc = good_next _ _ _
good (inst.Or rd rs1 rs2) r pc = good_next _ _ _
good (inst.And rd rs1 rs2) r pc = good_next _ _ _
good (inst.Mul rd rs1 rs2) r pc = good_next _ _ _
good (inst.Mulh rd rs1 rs2) r pc = good_next _ _ _
good (inst.Mulhsu rd rs1 rs2) r pc = good_next _ _ _
good (inst.Mulhu rd rs1 rs2) r pc = good_next _ _ _
good (inst.Div rd rs1 rs2) r pc = good_next _ _ _
good (inst.Divu rd rs1 rs2) r pc = good_next _ _ _
good (inst.Rem rd rs1 rs2) r pc = good_next _ _ _
good (inst.Remu rd rs1 rs2) r pc = good_next _ _ _
good (inst.Addw rd rs1 rs2) r pc = good_next _ _ _
good (inst.Subw rd rs1 rs2) r pc = good_next _ _ _
good (inst.Sllw rd rs1 rs2) r pc = good_next _ _ _
good (inst.Srlw rd rs1 rs2) r pc = good_next _ _ _
good (inst.Sraw rd rs1 rs2) r pc = good_next _ _ _
good (inst.Mulw rd rs1 rs2) r pc = good_next _ _ _
good (inst.Divw rd rs1 rs2) r pc = good_next _ _ _
good (inst.Divuw rd rs1 rs2) r pc = good_next _ _ _
good (inst.Remw rd rs1 rs2) r pc = good_next _ _ _
good (inst.Remuw rd rs1 rs2) r pc = good_next _ _ _
good (inst.Fence fm pred succ) r pc = good_fence _ _
good inst.FenceI r pc = good_fence_i _
good (inst.LrW rd rs1) r pc = good_lr _ _ _ _ four
good (inst.ScW rd rs1 rs2) r pc = good_sc _ _ _ _ _ four
good (inst.AmoSwapW rd rs1 rs2) r pc = good_amo _ _ _ _ _ _ four
good (inst.AmoAddW rd rs1 rs2) r pc = good_amo _ _ _ _ _ _ four
good (inst.AmoXorW rd rs1 rs2) r pc = good_amo _ _ _ _ _ _ four
good (inst.AmoAndW rd rs1 rs2) r pc = good_amo _ _ _ _ _ _ four
good (inst.AmoOrW rd rs1 rs2) r pc = good_amo _ _ _ _ _ _ four
good (inst.AmoMinW rd rs1 rs2) r pc = good_amo _ _ _ _ _ _ four
good (inst.AmoMaxW rd rs1 rs2) r pc = good_amo _ _ _ _ _ _ four
good (inst.AmoMinuW rd rs1 rs2) r pc = good_amo _ _ _ _ _ _ four
good (inst.AmoMaxuW rd rs1 rs2) r pc = good_amo _ _ _ _ _ _ four
good (inst.LrD rd rs1) r pc = good_lr _ _ _ _ eight
good (inst.ScD rd rs1 rs2) r pc = good_sc _ _ _ _ _ eight
good (inst.AmoSwapD rd rs1 rs2) r pc = good_amo _ _ _ _ _ _ eight
good (inst.AmoAddD rd rs1 rs2) r pc = good_amo _ _ _ _ _ _ eight
good (inst.AmoXorD rd rs1 rs2) r pc = good_amo _ _ _ _ _ _ eight
good (inst.AmoAndD rd rs1 rs2) r pc = good_amo _ _ _ _ _ _ eight
good (inst.AmoOrD rd rs1 rs2) r pc = good_amo _ _ _ _ _ _ eight
good (inst.AmoMinD rd rs1 rs2) r pc = good_amo _ _ _ _ _ _ eight
good (inst.AmoMaxD rd rs1 rs2) r pc = good_amo _ _ _ _ _ _ eight
good (inst.AmoMinuD rd rs1 rs2) r pc = good_amo _ _ _ _ _ _ eight
good (inst.AmoMaxuD rd rs1 rs2) r pc = good_amo _ _ _ _ _ _ eight
good inst.Ecall r pc = good_call _
good inst.Ebreak r pc = good_break _
