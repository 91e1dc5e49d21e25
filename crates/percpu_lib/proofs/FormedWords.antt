-- Words of a block that lead on in it, by a test of each word.
use Rattle.std.proofs.Common.{◌≡◌, ℕ, zero, suc, ◌+◌, ◌-◌, ◌*◌, ◌<◌, ◌≤◌, ◌^◌, Bool, false, true, arith, eqb}
use Rattle.std.proofs.Common.{List, [], ◌∷◌, length, Option, Some, None, slice_get, subst, sym, ap, ◌∙◌, pos}
use Rattle.std.proofs.Common.{negsuc}
use Rattle.std.proofs.lemmas.Bool.{eqb-false, false≢true}
use Rattle.rv_inst.specs.declared.instruction.Inst.{Inst}
use Rattle.rv_inst.specs.declared.instruction.Inst.TheVariants as inst
use Rattle.percpu_lib.specs.Forms.{Form, committed}
use Rattle.percpu_lib.specs.Words.{lower, upper}
use Rattle.percpu_lib.proofs.BlockCode.{AreWords, IsFormed}
use Rattle.percpu_lib.proofs.WordLaws.{IsPlain, IsTame, IsWord, beq_out, bne_anew, bne_out, jal_anew, jal_out}
use Rattle.percpu_lib.proofs.WordLaws.{straight_of, straight_word}

-- not the word at the post-commit address
abbrev pub IsInner : Form → ℕ → Type 0
IsInner form k = eqb k (committed form) ≡ false

-- an instruction of word k: it changes a register that may change, or stores; it branches back to the first
-- word, or to the post-commit address; or it jumps back, or behind the block
abbrev pub Fits : Form → ℕ → Inst → Type 0
Fits form k (inst.Bne rs1 rs2 (negsuc n)) = IsInner form k × (n + 1 ≡ 4 * k)
Fits form k (inst.Bne rs1 rs2 (pos n)) = IsInner form k × (4 * k + n ≡ 4 * committed form)
Fits form k (inst.Beq rs1 rs2 (pos n)) = IsInner form k × (4 * k + n ≡ 4 * committed form)
Fits form k (inst.Jal rd (negsuc n)) = (rd ≡ 0) × (n + 1 ≡ 4 * k)
Fits form k (inst.Jal rd (pos n)) = (rd ≡ 0) × (4 * k + n ≡ 4 * length form.words)
Fits form k other = IsInner form k × IsPlain form.may other

-- the words from word k on, of which one without an instruction is the signature
abbrev pub AreFit : Form → ℕ → List (Option Inst) → Type 0
AreFit form k [] = Unit {0}
AreFit form k (None ∷ rest) = (k ≡ committed form + 1) × AreFit form (k + 1) rest
AreFit form k (Some i ∷ rest) = Fits form k i × AreFit form (k + 1) rest

-- the same, but for some of them
abbrev pub Unless : Bool → Type 0 → Type 0
Unless true P = Unit {0}
Unless false P = P

abbrev pub AreFitBut : (ℕ → Bool) → Form → ℕ → List (Option Inst) → Type 0
AreFitBut but form k [] = Unit {0}
AreFitBut but form k (None ∷ rest) = AreFitBut but form (k + 1) rest
AreFitBut but form k (Some i ∷ rest) = Unless (but k) (Fits form k i) × AreFitBut but form (k + 1) rest

unless_not : (b : Bool) (P : Type 0) → b ≡ false → Unless b P → P
unless_not true P not is = absurd (false≢true (sym not))
unless_not false P not is = is

fit_at : (but : ℕ → Bool) (form : Form) (k : ℕ) (xs : List (Option Inst)) (n : ℕ) (i : Inst)
    → AreFitBut but form k xs → slice_get xs n ≡ Some (Some i) → but (k + n) ≡ false → Fits form (k + n) i
fit_at but form k [] n i are at not = absurd cc
fit_at but form k (None ∷ rest) zero i are at not = absurd cc
fit_at but form k (Some j ∷ rest) zero i are at not =
    let same : j ≡ i = cc in
    let here : k + zero ≡ k = omega arith in
    subst (λ m. Fits form m i) (sym here)
    (subst (Fits form k) same (unless_not (but k) (Fits form k j) (ap but (sym here) ∙ not) are.0))
fit_at but form k (None ∷ rest) (suc n) i are at not =
    let next : k + 1 + n ≡ k + suc n = omega arith in
    subst (λ m. Fits form m i) next (fit_at but form (k + 1) rest n i are at (ap but next ∙ not))
fit_at but form k (Some j ∷ rest) (suc n) i are at not =
    let next : k + 1 + n ≡ k + suc n = omega arith in
    subst (λ m. Fits form m i) next (fit_at but form (k + 1) rest n i are.1 at (ap but next ∙ not))

module _ (form : Form) (all : length form.words < 2 ^ 8) (within : committed form < 2 ^ 8) where
  word_fits : (k : ℕ) → k < 2 ^ 8 → (i : Inst) → Fits form k i → IsWord form k i
  word_fits k short (inst.Bne rs1 rs2 (negsuc n)) is =
      bne_anew form k short rs1 rs2 n is.1 (eqb-false k (committed form) is.0)
  word_fits k short (inst.Bne rs1 rs2 (pos n)) is =
      bne_out form k short rs1 rs2 n is.1 within (eqb-false k (committed form) is.0)
  word_fits k short (inst.Beq rs1 rs2 (pos n)) is =
      beq_out form k short rs1 rs2 n is.1 within (eqb-false k (committed form) is.0)
  word_fits k short (inst.Jal rd (negsuc n)) is =
      subst (λ r. IsWord form k (inst.Jal r (negsuc n))) (sym is.0) (jal_anew form k short n is.1)
  word_fits k short (inst.Jal rd (pos n)) is =
      subst (λ r. IsWord form k (inst.Jal r (pos n))) (sym is.0) (jal_out form k short n is.1 all)
  word_fits k short other is =
      straight_word form k short other (eqb-false k (committed form) is.0) (straight_of form.may other is.1)

  pub words_fit : (k : ℕ) (xs : List (Option Inst)) → k + length xs < 2 ^ 8 → AreFit form k xs
      → AreWords form k xs
  words_fit k [] few are = tt
  words_fit k (None ∷ rest) few are = (are.0, words_fit (k + 1) rest (omega arith) are.1)
  words_fit k (Some i ∷ rest) few are =
      (word_fits k (omega arith) i are.0, words_fit (k + 1) rest (omega arith) are.1)

  -- a word that isn't one of those changes no register but those that may change
  pub tame_at : (but : ℕ → Bool) (xs : List (Option Inst)) (n : ℕ) (i : Inst) → n < 2 ^ 8
      → AreFitBut but form 0 xs
      → slice_get xs n ≡ Some (Some i) → but n ≡ false → IsTame form.may i
  tame_at but xs n i few are at not =
      let same : 0 + n ≡ n = omega arith in
      (word_fits n few i (subst (λ m. Fits form m i) same (fit_at but form 0 xs n i are at
      (ap but same ∙ not)))).tame

-- a block whose words lead on in it, and make the address of its descriptor and store it just before the
-- start
pub formed_of : (form : Form) → 4 ≤ form.first → committed form + 2 < length form.words → length form.words
    < 2 ^ 8
    → 0 < form.inside → slice_get form.words (form.first - 3)
    ≡ Some (Some (inst.Lui 6 (upper form.slots.table)))
    → slice_get form.words (form.first - 2) ≡ Some (Some (inst.Addi 6 6 (lower form.slots.table)))
    → slice_get form.words (form.first - 1) ≡ Some (Some (inst.Sd form.slots.area 6 (pos 8)))
    → (i : Inst) → slice_get form.words 0 ≡ Some (Some i) → AreWords form 0 form.words → IsFormed form
formed_of form some within short inside lui addi store i entry words = record {
  some = some;
  within = within;
  short = short;
  inside = inside;
  lui = lui;
  addi = addi;
  store = store;
  words = words;
  entry = (i, entry);
}
