-- The blocks as lines of code, with labels (liburcu, flavour memb; membarrier(2)).
use Rattle.std.specs.Prelude.{ℕ, ◌≡◌, ◌+◌, List, [], ◌∷◌, Option, Some, None, slice_get, pos, negsuc}
use Rattle.rv_inst.specs.declared.instruction.Inst.TheVariants as inst
use Rattle.percpu_lib.specs.declared.lines.Line.{Line}
use Rattle.percpu_lib.specs.declared.lines.Line.TheVariants as line
use Rattle.urcu_lib.specs.declared.regs.ReadRegs.{ReadRegs}
use Rattle.urcu_lib.specs.declared.regs.SyncRegs.{SyncRegs}

abbrev pub lock_lines : ReadRegs → List Line
lock_lines r =
    line.Plain (inst.Ld r.scratch r.gp (pos 0))
    ∷ line.Plain (inst.Sd r.slot r.scratch (pos 0))
    ∷ []

abbrev pub unlock_lines : ReadRegs → List Line
unlock_lines r = line.Plain (inst.Sd r.slot 0 (pos 0)) ∷ []

-- membarrier(8, 0, 0); the counter grows; then the loop over the slots: x6 is the address of one, of which x7 are
-- left, and it is loaded until it is 0 or not below the counter. The last line stands behind the loop
abbrev pub sync_lines : SyncRegs → ℕ → ℕ → List Line
sync_lines r base readers =
    line.Plain (inst.Addi 10 0 (pos 8))
    ∷ line.Plain (inst.Addi 11 0 (pos 0))
    ∷ line.Plain (inst.Addi 12 0 (pos 0))
    ∷ line.Plain (inst.Addi 17 0 (pos 283))
    ∷ line.Plain inst.Ecall
    ∷ line.Plain (inst.Ld 5 r.gp (pos 0))
    ∷ line.Plain (inst.Addi 5 5 (pos 1))
    ∷ line.Plain (inst.Sd r.gp 5 (pos 0))
    ∷ line.Plain (inst.Addi 6 r.slots (pos 0))
    ∷ line.Plain (inst.Addi 7 0 (pos readers))
    ∷ line.Label base
    ∷ line.Plain (inst.Ld 10 6 (pos 0))
    ∷ line.Branch (inst.Beq 10 0 (pos 0)) (base + 1)
    ∷ line.Branch (inst.Bltu 10 5 (pos 0)) base
    ∷ line.Label (base + 1)
    ∷ line.Plain (inst.Addi 6 6 (pos 64))
    ∷ line.Plain (inst.Addi 7 7 (negsuc 0))
    ∷ line.Branch (inst.Bne 7 0 (pos 0)) base
    ∷ line.Plain (inst.Addi 10 0 (pos 0))
    ∷ []

-- two labels from one on are there and unbound
pub record AreFree (labels : List (Option ℕ)) (base : ℕ) : Type 0 where
  pub loop : slice_get labels base ≡ Some None
  pub next : slice_get labels (base + 1) ≡ Some None
