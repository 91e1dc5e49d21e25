-- What the instructions of ring blocks mean where the values of the registers that they read are known.
use Rattle.std.proofs.Common.{◌≡◌, ℕ, ◌%◌, ◌^◌, ◌<◌, arith, ap, ◌∙◌, ℤ, pos, nat_lt}
use Rattle.std.specs.Int.Bits.{bit_and}
use Rattle.std.proofs.lemmas.Nat.{and_mask}
use Rattle.mach_types.specs.Registers.{register}
use Rattle.mach_types.specs.declared.registers.Regs.{Regs}
use Rattle.rv_inst.specs.Meaning.{meaning, next}
use Rattle.rv_inst.specs.Words.{difference_64, one_if, sum_64, word}
use Rattle.rv_inst.specs.declared.effects.Effect.TheVariants as effect
use Rattle.rv_inst.specs.declared.instruction.Inst.TheVariants as inst

module _ (f : Regs) (at to : ℕ) (on : sum_64 at 4 ≡ to) where
  pub means_sub : (rd rs1 rs2 a b v : ℕ) → register f rs1 ≡ a → register f rs2 ≡ b → difference_64 a b ≡ v
      → meaning (inst.Sub rd rs1 rs2) f at ≡ effect.Next rd v to
  unfolding meaning
  means_sub rd rs1 rs2 a b v first second is =
      ap (λ n. next rd (difference_64 n (register f rs2)) at) first
      ∙ ap (λ n. next rd (difference_64 a n) at) second ∙ ap (λ n. next rd n at) is ∙ ap (effect.Next rd v) on

  pub means_sltiu : (rd rs1 : ℕ) (imm : ℤ) (a v : ℕ) → register f rs1 ≡ a → one_if (nat_lt a (word imm)) ≡ v
      → meaning (inst.Sltiu rd rs1 imm) f at ≡ effect.Next rd v to
  unfolding meaning
  means_sltiu rd rs1 imm a v first is =
      ap (λ n. next rd (one_if (nat_lt n (word imm))) at) first ∙ ap (λ n. next rd n at) is ∙ ap (effect.Next rd v) on

  pub means_andi : (rd rs1 : ℕ) (imm : ℤ) (a v : ℕ) → register f rs1 ≡ a → bit_and a (word imm) ≡ v
      → meaning (inst.Andi rd rs1 imm) f at ≡ effect.Next rd v to
  unfolding meaning
  means_andi rd rs1 imm a v first is =
      ap (λ n. next rd (bit_and n (word imm)) at) first ∙ ap (λ n. next rd n at) is ∙ ap (effect.Next rd v) on

-- a small immediate
pub word_small : (n : ℕ) → n < 2 ^ 64 → word (pos n) ≡ n
word_small n low = omega arith

-- the slot of word n
pub slot_number : (n : ℕ) → bit_and n (word (pos 511)) ≡ n % 512
slot_number n = and_mask n 9
