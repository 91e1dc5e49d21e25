-- What instructions mean where the values of the registers that they read are known.
use Rattle.std.proofs.Common.{◌≡◌, ℕ, ◌%◌, ap, ◌∙◌, true, false, not, cond, eqb, ℤ}
use Rattle.mach_types.specs.Registers.{register}
use Rattle.mach_types.specs.declared.registers.Regs.{Regs}
use Rattle.rv_inst.specs.Meaning.{branch, go_to, meaning, next}
use Rattle.rv_inst.specs.Memory.{low_bytes}
use Rattle.rv_inst.specs.Words.{shift_left, sum_64, word}
use Rattle.rv_inst.specs.declared.effects.Effect.TheVariants as effect
use Rattle.rv_inst.specs.declared.instruction.Inst.TheVariants as inst

module _ (f : Regs) (at to : ℕ) (on : sum_64 at 4 ≡ to) where
  pub means_add : (rd rs1 rs2 a b v : ℕ) → register f rs1 ≡ a → register f rs2 ≡ b → sum_64 a b ≡ v
      → meaning (inst.Add rd rs1 rs2) f at ≡ effect.Next rd v to
  unfolding meaning
  means_add rd rs1 rs2 a b v first second is =
      ap (λ n. next rd (sum_64 n (register f rs2)) at) first ∙ ap (λ n. next rd (sum_64 a n) at) second
      ∙ ap (λ n. next rd n at) is ∙ ap (effect.Next rd v) on

  pub means_addi : (rd rs1 : ℕ) (imm : ℤ) (a v : ℕ) → register f rs1 ≡ a → sum_64 a (word imm) ≡ v
      → meaning (inst.Addi rd rs1 imm) f at ≡ effect.Next rd v to
  unfolding meaning
  means_addi rd rs1 imm a v first is = ap (λ n. next rd (sum_64 n (word imm)) at) first
      ∙ ap (λ n. next rd n at) is ∙ ap (effect.Next rd v) on

  pub means_lui : (rd : ℕ) (imm : ℤ) (v : ℕ) → word imm ≡ v → meaning (inst.Lui rd imm) f at ≡ effect.Next rd v to
  unfolding meaning
  means_lui rd imm v is = ap (λ n. next rd n at) is ∙ ap (effect.Next rd v) on

  pub means_slli : (rd rs1 k a v : ℕ) → register f rs1 ≡ a → shift_left a k ≡ v
      → meaning (inst.Slli rd rs1 k) f at ≡ effect.Next rd v to
  unfolding meaning
  means_slli rd rs1 k a v first is = ap (λ n. next rd (shift_left n k) at) first ∙ ap (λ n. next rd n at) is
      ∙ ap (effect.Next rd v) on

  pub means_bne_not : (rs1 rs2 : ℕ) (imm : ℤ) (a b : ℕ) → register f rs1 ≡ a → register f rs2 ≡ b
      → eqb a b ≡ true → meaning (inst.Bne rs1 rs2 imm) f at ≡ effect.Next 0 0 to
  unfolding meaning
  means_bne_not rs1 rs2 imm a b first second same =
      ap (λ n. branch (not (eqb n (register f rs2))) (sum_64 at (word imm)) at) first
      ∙ ap (λ n. branch (not (eqb a n)) (sum_64 at (word imm)) at) second
      ∙ ap (λ c. branch (not c) (sum_64 at (word imm)) at) same ∙ ap (effect.Next 0 0) on

module _ (f : Regs) (at : ℕ) where
  pub means_bne_taken : (rs1 rs2 : ℕ) (imm : ℤ) (a b to : ℕ) → register f rs1 ≡ a → register f rs2 ≡ b
      → eqb a b ≡ false → sum_64 at (word imm) ≡ to → to % 4 ≡ 0
      → meaning (inst.Bne rs1 rs2 imm) f at ≡ effect.Next 0 0 to
  unfolding meaning
  means_bne_taken rs1 rs2 imm a b to first second differs target aligned =
      ap (λ n. branch (not (eqb n (register f rs2))) (sum_64 at (word imm)) at) first
      ∙ ap (λ n. branch (not (eqb a n)) (sum_64 at (word imm)) at) second
      ∙ ap (λ c. branch (not c) (sum_64 at (word imm)) at) differs ∙ ap (go_to 0 0) target
      ∙ ap (λ n. cond (eqb n 0) (effect.Next 0 0 to) effect.Misaligned) aligned

  pub means_lw : (rd rs1 : ℕ) (imm : ℤ) (a from : ℕ) → register f rs1 ≡ a → sum_64 a (word imm) ≡ from
      → meaning (inst.Lw rd rs1 imm) f at ≡ effect.Load from 4 true rd
  unfolding meaning
  means_lw rd rs1 imm a from first is = ap (λ n. effect.Load (sum_64 n (word imm)) 4 true rd) first
      ∙ ap (λ n. effect.Load n 4 true rd) is

  pub means_ld : (rd rs1 : ℕ) (imm : ℤ) (a from : ℕ) → register f rs1 ≡ a → sum_64 a (word imm) ≡ from
      → meaning (inst.Ld rd rs1 imm) f at ≡ effect.Load from 8 true rd
  unfolding meaning
  means_ld rd rs1 imm a from first is = ap (λ n. effect.Load (sum_64 n (word imm)) 8 true rd) first
      ∙ ap (λ n. effect.Load n 8 true rd) is

  pub means_sd : (rs1 rs2 : ℕ) (imm : ℤ) (a into b v : ℕ) → register f rs1 ≡ a → sum_64 a (word imm) ≡ into
      → register f rs2 ≡ b → low_bytes 8 b ≡ v
      → meaning (inst.Sd rs1 rs2 imm) f at ≡ effect.Store into 8 v
  unfolding meaning
  means_sd rs1 rs2 imm a into b v first is second fits =
      ap (λ n. effect.Store (sum_64 n (word imm)) 8 (low_bytes 8 (register f rs2))) first
      ∙ ap (λ n. effect.Store n 8 (low_bytes 8 (register f rs2))) is
      ∙ ap (λ n. effect.Store into 8 (low_bytes 8 n)) second ∙ ap (effect.Store into 8) fits
