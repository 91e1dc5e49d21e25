-- No word of a block is a call but the fifth of a sync block.
use Rattle.std.proofs.Common.{◌≡◌, ◌≢◌, ℕ, zero, suc, ◌<◌, List, [], ◌∷◌, drop, length, arith, refl, Bool, true}
use Rattle.std.proofs.Common.{false, cond, eqb, ltb, not, ◌%◌, Option, Some, None, slice_get, ℤ, pos, negsuc}
use Rattle.mach_types.specs.Registers.{register}
use Rattle.mach_types.specs.declared.registers.Regs.{Regs}
use Rattle.rv_inst.specs.Class.{is_call}
use Rattle.rv_inst.specs.Meaning.{branch, meaning}
use Rattle.rv_inst.specs.Words.{sum_64, word}
use Rattle.rv_inst.specs.declared.effects.Effect.TheVariants as effect
use Rattle.rv_inst.specs.declared.instruction.Inst.{Inst}
use Rattle.rv_inst.specs.declared.instruction.Inst.TheVariants as inst
use Rattle.urcu_lib.specs.Blocks.{sync_block}
use Rattle.urcu_lib.specs.declared.regs.SyncRegs.{SyncRegs}

abbrev pub IsNoCall : Inst → Type 0
IsNoCall i = (f : Regs) (pc : ℕ) → is_call (meaning i f pc) ≡ false

addi_none : (rd rs1 : ℕ) (imm : ℤ) → IsNoCall (inst.Addi rd rs1 imm)
unfolding meaning
addi_none rd rs1 imm f pc = refl

pub ld_none : (rd rs1 : ℕ) (imm : ℤ) → IsNoCall (inst.Ld rd rs1 imm)
unfolding meaning
ld_none rd rs1 imm f pc = refl

sd_none : (rs1 rs2 : ℕ) (imm : ℤ) → IsNoCall (inst.Sd rs1 rs2 imm)
unfolding meaning
sd_none rs1 rs2 imm f pc = refl

branch_none : (b : Bool) (target pc : ℕ) → is_call (branch b target pc) ≡ false
branch_none true target pc = by_place (eqb (target % 4) 0)
  where
    by_place : (c : Bool) → is_call (cond c (effect.Next 0 0 target) effect.Misaligned) ≡ false
    by_place true = refl
    by_place false = refl
branch_none false target pc = refl

beq_none : (rs1 rs2 : ℕ) (imm : ℤ) → IsNoCall (inst.Beq rs1 rs2 imm)
unfolding meaning
beq_none rs1 rs2 imm f pc = branch_none (eqb (register f rs1) (register f rs2)) (sum_64 pc (word imm)) pc

bne_none : (rs1 rs2 : ℕ) (imm : ℤ) → IsNoCall (inst.Bne rs1 rs2 imm)
unfolding meaning
bne_none rs1 rs2 imm f pc = branch_none (not (eqb (register f rs1) (register f rs2))) (sum_64 pc (word imm)) pc

bltu_none : (rs1 rs2 : ℕ) (imm : ℤ) → IsNoCall (inst.Bltu rs1 rs2 imm)
unfolding meaning
bltu_none rs1 rs2 imm f pc = branch_none (ltb (register f rs1) (register f rs2)) (sum_64 pc (word imm)) pc

-- each word is an instruction, and no call
abbrev AreNoCalls : List (Option Inst) → Type 0
AreNoCalls [] = Unit {0}
AreNoCalls (None ∷ ws) = ⊥
AreNoCalls (Some i ∷ ws) = IsNoCall i × AreNoCalls ws

pub record IsPlain (ws : List (Option Inst)) (k : ℕ) : Type 0 where
  pub its : Inst
  pub is : slice_get ws k ≡ Some (Some its)
  pub none : IsNoCall its

plain_word : (ws : List (Option Inst)) → AreNoCalls ws → (k : ℕ) → k < length ws → IsPlain ws k
plain_word [] none k lt = let no : ⊥ = omega arith in absurd no
plain_word (None ∷ ws) none k lt = absurd none
plain_word (Some i ∷ ws) none zero lt = record { its = i; is = refl; none = none.0 }
plain_word (Some i ∷ ws) none (suc k) lt =
    let rest = plain_word ws none.1 k (omega arith) in
    record { its = rest.its; is = rest.is; none = rest.none }

-- the words behind the call
abbrev late_words : SyncRegs → ℕ → List (Option Inst)
late_words r readers = drop 5 (sync_block r readers)

late_none : (r : SyncRegs) (readers : ℕ) → AreNoCalls (late_words r readers)
late_none r readers = (
  ld_none 5 r.gp (pos 0),
  (
    addi_none 5 5 (pos 1),
    (
      sd_none r.gp 5 (pos 0),
      (
        addi_none 6 r.slots (pos 0),
        (
          addi_none 7 0 (pos readers),
          (
            ld_none 10 6 (pos 0),
            (
              beq_none 10 0 (pos 8),
              (
                bltu_none 10 5 (negsuc 7),
                (
                  addi_none 6 6 (pos 64),
                  (addi_none 7 7 (negsuc 0), (bne_none 7 0 (negsuc 19), (addi_none 10 0 (pos 0), tt))),
                ),
              ),
            ),
          ),
        ),
      ),
    ),
  ),
)

pub sync_word : (r : SyncRegs) (readers k : ℕ) → k < 17 → k ≢ 4 → IsPlain (sync_block r readers) k
sync_word r readers zero lt other = record { its = inst.Addi 10 0 (pos 8); is = refl; none = addi_none 10 0 (pos 8) }
sync_word r readers (suc zero) lt other = record
    { its = inst.Addi 11 0 (pos 0); is = refl; none = addi_none 11 0 (pos 0) }
sync_word r readers (suc (suc zero)) lt other = record
    { its = inst.Addi 12 0 (pos 0); is = refl; none = addi_none 12 0 (pos 0) }
sync_word r readers (suc (suc (suc zero))) lt other = record
    { its = inst.Addi 17 0 (pos 283); is = refl; none = addi_none 17 0 (pos 283) }
sync_word r readers (suc (suc (suc (suc zero)))) lt other = absurd (other refl)
sync_word r readers (suc (suc (suc (suc (suc k))))) lt other =
    let rest = plain_word (late_words r readers) (late_none r readers) k (omega arith) in
    record { its = rest.its; is = rest.is; none = rest.none }
