-- Each instruction goes on at an address below 2^64, as `rv_inst` proves row by row.
use Rattle.block_model.proofs.Common.{◌≡◌, ℕ, ◌+◌, ◌^◌, ◌<◌, subst, arith, Option, Some, None, Effect, Saved, instruction_of, meaning, mod-lt, option_map, outcome, sum_64, Inst}
use Rattle.rv_inst.proofs.Laws.{pc-fits}
use Rattle.block_model.specs.Instruction.{effect_of}

-- a sum of words is a word
pub in_word : (a b : ℕ) → sum_64 a b < 2 ^ 64
in_word a b = mod-lt (a + b) (omega arith)

-- a file whose pc is below 2^64
abbrev pub StandsIn : Saved → Type 0
StandsIn f = f.pc < 2 ^ 64

module _ (seen : ℕ → Option ℕ) (f : Saved) (r : Option ℕ) (e : Effect) (stands : StandsIn f) where
  of_inst : (o : Option Inst) → option_map (λ i. meaning i f.file f.pc) o ≡ Some e
      → (outcome seen f.file f.pc r e).pc < 2 ^ 64
  of_inst (Some i) is =
      let same : meaning i f.file f.pc ≡ e = cc in
      subst (λ e. (outcome seen f.file f.pc r e).pc < 2 ^ 64) same
      (pc-fits i f.file f.pc seen f.file r stands)
  of_inst None is = absurd cc

  pub outcome_stands : (word : Option ℕ) → effect_of word f ≡ Some e
      → (outcome seen f.file f.pc r e).pc < 2 ^ 64
  outcome_stands word is = of_inst (instruction_of word) is
