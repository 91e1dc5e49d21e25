-- Registers of a block that brings a value out, and branches on equality.
use Rattle.std.proofs.Common.{◌≡◌, ◌≢◌, ℕ, ◌%◌, sym, ap, ◌∙◌, true, false, cond, eqb, ◌||◌, ℤ}
use Rattle.std.proofs.lemmas.Bool.{false≢true, ne_eqb}
use Rattle.mach_types.proofs.Laws.{eqb_same}
use Rattle.mach_types.specs.Registers.{register}
use Rattle.mach_types.specs.declared.registers.Regs.{Regs}
use Rattle.rv_inst.specs.Meaning.{branch, go_to, meaning}
use Rattle.rv_inst.specs.Words.{sum_64, word}
use Rattle.rv_inst.specs.declared.effects.Effect.TheVariants as effect
use Rattle.rv_inst.specs.declared.instruction.Inst.TheVariants as inst
use Rattle.alone.specs.Temps.{is_scratch, put}
use Rattle.percpu_lib.specs.Words.{AreSlots, is_changed}
use Rattle.percpu_lib.specs.declared.slots.Slots.{Slots}
use Rattle.percpu_lib.proofs.BlockWords.{or_true}

-- REGISTERS

pub put_same : (rd v : ℕ) (temps : ℕ → ℕ) → put rd v temps rd ≡ v
put_same rd v temps = ap (λ b. cond b v (temps rd)) (eqb_same rd)

pub put_other : (rd v : ℕ) (temps : ℕ → ℕ) (r : ℕ) → r ≢ rd → put rd v temps r ≡ temps r
put_other rd v temps r other = ap (λ b. cond b v (temps r)) (ne_eqb r rd other)

-- a register that every block may change isn't one that none may
pub scratch_not : (r v : ℕ) → is_scratch r ≡ true → is_scratch v ≡ false → r ≢ v
scratch_not r v scratch kept same = false≢true (sym kept ∙ sym (ap is_scratch same) ∙ scratch)

module _ (p : Slots) where
  pub not_changed : (r : ℕ) → is_scratch r ≡ false → r ≢ p.value → is_changed p r ≡ false
  not_changed r kept other = ap (λ b. b || eqb r p.value) kept ∙ ne_eqb r p.value other

  pub value_changed : is_changed p p.value ≡ true
  value_changed = ap (λ b. is_scratch p.value || b) (eqb_same p.value) ∙ or_true (is_scratch p.value)

  module _ (slots : AreSlots p) where
    pub some_value : eqb p.value 0 ≡ false
    some_value = ne_eqb p.value 0 slots.some_value

    pub area_not_changed : is_changed p p.area ≡ false
    area_not_changed = not_changed p.area slots.area slots.area_value

    pub cells_not_changed : is_changed p p.cells ≡ false
    cells_not_changed = not_changed p.cells slots.cells slots.cells_value

    -- a write to another register that the block changes leaves the value, and a write to the value leaves
    -- that
    pub value_beside : (r x : ℕ) (temps : ℕ → ℕ) → is_scratch r ≡ true → put r x temps p.value ≡ temps p.value
    value_beside r x temps is =
        put_other r x temps p.value (λ same. scratch_not r p.value is slots.value (sym same))

    pub beside_value : (r x : ℕ) (temps : ℕ → ℕ) → is_scratch r ≡ true → put p.value x temps r ≡ temps r
    beside_value r x temps is = put_other p.value x temps r (scratch_not r p.value is slots.value)

-- BRANCHES

pub means_beq_not : (f : Regs) (at to : ℕ) → sum_64 at 4 ≡ to → (rs1 rs2 : ℕ) (imm : ℤ) (a b : ℕ)
    → register f rs1 ≡ a → register f rs2 ≡ b → eqb a b ≡ false
    → meaning (inst.Beq rs1 rs2 imm) f at ≡ effect.Next 0 0 to
unfolding meaning
means_beq_not f at to on rs1 rs2 imm a b first second differs =
    ap (λ n. branch (eqb n (register f rs2)) (sum_64 at (word imm)) at) first
    ∙ ap (λ n. branch (eqb a n) (sum_64 at (word imm)) at) second
    ∙ ap (λ c. branch c (sum_64 at (word imm)) at) differs ∙ ap (effect.Next 0 0) on

pub means_beq_taken : (f : Regs) (at rs1 rs2 : ℕ) (imm : ℤ) (a b to : ℕ) → register f rs1 ≡ a
    → register f rs2 ≡ b
    → eqb a b ≡ true → sum_64 at (word imm) ≡ to → to % 4 ≡ 0
    → meaning (inst.Beq rs1 rs2 imm) f at ≡ effect.Next 0 0 to
unfolding meaning
means_beq_taken f at rs1 rs2 imm a b to first second same target aligned =
    ap (λ n. branch (eqb n (register f rs2)) (sum_64 at (word imm)) at) first
    ∙ ap (λ n. branch (eqb a n) (sum_64 at (word imm)) at) second
    ∙ ap (λ c. branch c (sum_64 at (word imm)) at) same ∙ ap (go_to 0 0) target
    ∙ ap (λ n. cond (eqb n 0) (effect.Next 0 0 to) effect.Misaligned) aligned
