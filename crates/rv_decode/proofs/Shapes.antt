-- The instruction that a decoder makes of a word's fields is the one that the row reads.
use Rattle.std.proofs.Common.{◌≡◌, ℕ, ℤ, Some, FitsSigned, to_z, of_z, w64, sym}
use Rattle.std.proofs.lemmas.Int.{to_z-of_z}
use Rattle.rv_inst.specs.declared.instruction.Inst.{Inst}
use Rattle.rv_inst.specs.Table.{row_of}

-- one register and an immediate
pub one_and_imm : (make : ℕ → ℤ → Inst) (w a a' : ℕ) (z z' : ℤ) → FitsSigned w64 z → a ≡ a' → z ≡ z' → row_of w ≡ Some (make a' z') → Some (make a (to_z w64 (of_z w64 z))) ≡ row_of w
one_and_imm make w a a' z z' fits e f row = rw (to_z-of_z w64 z fits, e, f) (sym row)

-- three registers
pub three : (make : ℕ → ℕ → ℕ → Inst) (w a a' b b' c c' : ℕ) → a ≡ a' → b ≡ b' → c ≡ c' → row_of w ≡ Some (make a' b' c') → Some (make a b c) ≡ row_of w
three make w a a' b b' c c' e f g row = rw (e, f, g) (sym row)
