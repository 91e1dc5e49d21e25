-- What the instructions of blocks do to the pc and to registers, and how a word of a block leads on.
use Rattle.std.proofs.Common.{◌≡◌, ◌≢◌, ℕ, ◌+◌, ◌*◌, ◌%◌, ◌^◌, ◌<◌, ◌⊎◌, inl, inr}
use Rattle.std.proofs.Common.{refl, sym, ap, ◌∙◌, subst, arith, Bool, true, false, not, cond, eqb}
use Rattle.std.proofs.Common.{length, Option, ℤ, pos, negsuc}
use Rattle.std.proofs.lemmas.Bool.{false≢true}
use Rattle.std.proofs.lemmas.Int.{ints}
use Rattle.mach_types.specs.Registers.{register, with_register}
use Rattle.mach_types.specs.declared.registers.Regs.{Regs}
use Rattle.rv_inst.specs.Class.{is_call}
use Rattle.rv_inst.specs.Execution.{outcome}
use Rattle.rv_inst.specs.Meaning.{branch, go_to, meaning}
use Rattle.rv_inst.specs.Words.{sum_64, word}
use Rattle.rv_inst.specs.declared.effects.Effect.TheVariants as effect
use Rattle.rv_inst.specs.declared.instruction.Inst.{Inst}
use Rattle.rv_inst.specs.declared.instruction.Inst.TheVariants as inst
use Rattle.alone.proofs.Laws.{written_other}
use Rattle.percpu_lib.specs.Forms.{Form, committed}

-- INSTRUCTIONS

-- an instruction that is no call, and changes no register but those that may change
pub record IsTame (may : ℕ → Bool) (i : Inst) : Type 0 where
  pub plain : (f : Regs) (pc : ℕ) → is_call (meaning i f pc) ≡ false
  pub keeps : (seen : ℕ → Option ℕ) (f : Regs) (pc : ℕ) (r : Option ℕ) (x : ℕ) → may x ≡ false
      → register (outcome seen f pc r (meaning i f pc)).regs x ≡ register f x

-- and one that leads on 4 bytes
pub record IsStraight (may : ℕ → Bool) (i : Inst) : Type 0 where
  pub tame : IsTame may i
  pub on : (seen : ℕ → Option ℕ) (f : Regs) (pc : ℕ) (r : Option ℕ)
      → (outcome seen f pc r (meaning i f pc)).pc ≡ sum_64 pc 4

another : (may : ℕ → Bool) (x rd : ℕ) → may x ≡ false → may rd ≡ true → x ≢ rd
another may x rd other allowed same = false≢true (sym other ∙ ap may same ∙ allowed)

-- a plain instruction changes a register that may change, or stores
abbrev pub IsPlain : (ℕ → Bool) → Inst → Type 0
IsPlain may (inst.Lw rd rs imm) = may rd ≡ true
IsPlain may (inst.Ld rd rs imm) = may rd ≡ true
IsPlain may (inst.Lui rd imm) = may rd ≡ true
IsPlain may (inst.Addi rd rs imm) = may rd ≡ true
IsPlain may (inst.Slli rd rs shamt) = may rd ≡ true
IsPlain may (inst.Add rd rs1 rs2) = may rd ≡ true
IsPlain may (inst.Sub rd rs1 rs2) = may rd ≡ true
IsPlain may (inst.Sltiu rd rs imm) = may rd ≡ true
IsPlain may (inst.Andi rd rs imm) = may rd ≡ true
IsPlain may (inst.Sd rs1 rs2 imm) = Unit {0}
IsPlain may other = ⊥

module _ (may : ℕ → Bool) where
  -- an instruction that writes one register, and leads on
  writes : {i : Inst} (rd : ℕ) → may rd ≡ true → ((f : Regs) (pc : ℕ) → is_call (meaning i f pc) ≡ false)
      → ((seen : ℕ → Option ℕ) (f : Regs) (pc : ℕ) (r : Option ℕ)
      → (n : ℕ) × ((outcome seen f pc r (meaning i f pc)).regs ≡ with_register f rd n)
      × ((outcome seen f pc r (meaning i f pc)).pc ≡ sum_64 pc 4)) → IsStraight may i
  writes rd allowed plain does = record {
    tame = record {
      plain = plain;
      keeps = λ seen f pc r x other.
          let its = does seen f pc r in
          ap (λ (regs : Regs). register regs x) its.1
          ∙ written_other f rd its.0 x (another may x rd other allowed);
    };
    on = λ seen f pc r. (does seen f pc r).2;
  }

  -- each plain one
  pub straight_of : (i : Inst) → IsPlain may i → IsStraight may i
  unfolding meaning
  straight_of (inst.Lw rd rs imm) is = writes rd is (λ f pc. refl) (λ seen f pc r. (_, refl, refl))
  straight_of (inst.Ld rd rs imm) is = writes rd is (λ f pc. refl) (λ seen f pc r. (_, refl, refl))
  straight_of (inst.Lui rd imm) is = writes rd is (λ f pc. refl) (λ seen f pc r. (_, refl, refl))
  straight_of (inst.Addi rd rs imm) is = writes rd is (λ f pc. refl) (λ seen f pc r. (_, refl, refl))
  straight_of (inst.Slli rd rs shamt) is = writes rd is (λ f pc. refl) (λ seen f pc r. (_, refl, refl))
  straight_of (inst.Add rd rs1 rs2) is = writes rd is (λ f pc. refl) (λ seen f pc r. (_, refl, refl))
  straight_of (inst.Sub rd rs1 rs2) is = writes rd is (λ f pc. refl) (λ seen f pc r. (_, refl, refl))
  straight_of (inst.Sltiu rd rs imm) is = writes rd is (λ f pc. refl) (λ seen f pc r. (_, refl, refl))
  straight_of (inst.Andi rd rs imm) is = writes rd is (λ f pc. refl) (λ seen f pc r. (_, refl, refl))
  straight_of (inst.Sd rs1 rs2 imm) is = record {
    tame = record { plain = λ f pc. refl; keeps = λ seen f pc r x other. refl };
    on = λ seen f pc r. refl;
  }
  straight_of other is = absurd is

-- a branch goes on, or to its target where that is a multiple of 4; a jump to its target
either_pc : (seen : ℕ → Option ℕ) (f : Regs) (pc to : ℕ) (r : Option ℕ) (c : Bool) → to % 4 ≡ 0
    → ((outcome seen f pc r (branch c to pc)).pc ≡ to)
    ⊎ ((outcome seen f pc r (branch c to pc)).pc ≡ sum_64 pc 4)
either_pc seen f pc to r true aligned =
    inl (ap (λ n. (outcome seen f pc r (cond (eqb n 0) (effect.Next 0 0 to) effect.Misaligned)).pc) aligned)
either_pc seen f pc to r false aligned = inr refl

-- a branch, by how far it leads
abbrev pub IsBranch : Inst → ℤ → Type 0
IsBranch i imm = (seen : ℕ → Option ℕ) (f : Regs) (pc to : ℕ) (r : Option ℕ) → sum_64 pc (word imm) ≡ to → to % 4 ≡ 0
    → ((outcome seen f pc r (meaning i f pc)).pc ≡ to) ⊎ ((outcome seen f pc r (meaning i f pc)).pc ≡ sum_64 pc 4)

branch_pc : (seen : ℕ → Option ℕ) (f : Regs) (pc to : ℕ) (r : Option ℕ) (c : Bool) (imm : ℤ)
    → sum_64 pc (word imm) ≡ to → to % 4 ≡ 0
    → ((outcome seen f pc r (branch c (sum_64 pc (word imm)) pc)).pc ≡ to)
    ⊎ ((outcome seen f pc r (branch c (sum_64 pc (word imm)) pc)).pc ≡ sum_64 pc 4)
branch_pc seen f pc to r c imm target aligned =
    subst (λ n. ((outcome seen f pc r (branch c n pc)).pc ≡ to)
    ⊎ ((outcome seen f pc r (branch c n pc)).pc ≡ sum_64 pc 4))
    (sym target) (either_pc seen f pc to r c aligned)

pub bne_pc : (rs1 rs2 : ℕ) (imm : ℤ) → IsBranch (inst.Bne rs1 rs2 imm) imm
unfolding meaning
bne_pc rs1 rs2 imm seen f pc to r = branch_pc seen f pc to r (not (eqb (register f rs1) (register f rs2))) imm

pub beq_pc : (rs1 rs2 : ℕ) (imm : ℤ) → IsBranch (inst.Beq rs1 rs2 imm) imm
unfolding meaning
beq_pc rs1 rs2 imm seen f pc to r = branch_pc seen f pc to r (eqb (register f rs1) (register f rs2)) imm

jal_pc : (seen : ℕ → Option ℕ) (f : Regs) (pc to : ℕ) (r : Option ℕ) (rd : ℕ) (imm : ℤ)
    → sum_64 pc (word imm) ≡ to → to % 4 ≡ 0
    → (outcome seen f pc r (meaning (inst.Jal rd imm) f pc)).pc ≡ to
unfolding meaning
jal_pc seen f pc to r rd imm target aligned =
    ap (λ n. (outcome seen f pc r (go_to rd (sum_64 pc 4) n)).pc) target
    ∙ ap (λ n. (outcome seen f pc r (cond (eqb n 0) (effect.Next rd (sum_64 pc 4) to) effect.Misaligned)).pc)
    aligned

-- none of them is a call, or changes a register
go_plain : (rd v to : ℕ) (d : Bool) → is_call (cond d (effect.Next rd v to) effect.Misaligned) ≡ false
go_plain rd v to true = refl
go_plain rd v to false = refl

branch_plain : (c : Bool) (to pc : ℕ) → is_call (branch c to pc) ≡ false
branch_plain true to pc = go_plain 0 0 to (eqb (to % 4) 0)
branch_plain false to pc = refl

module _ (seen : ℕ → Option ℕ) (f : Regs) (pc : ℕ) (r : Option ℕ) (x : ℕ) where
  kept_go : (to v : ℕ) (c : Bool) → register (outcome seen f pc r
      (cond c (effect.Next 0 v to) effect.Misaligned)).regs x ≡ register f x
  kept_go to v true = refl
  kept_go to v false = refl

  kept_branch : (c : Bool) (to : ℕ) → register (outcome seen f pc r (branch c to pc)).regs x ≡ register f x
  kept_branch true to = kept_go to 0 (eqb (to % 4) 0)
  kept_branch false to = refl

pub tame_bne : (may : ℕ → Bool) (rs1 rs2 : ℕ) (imm : ℤ) → IsTame may (inst.Bne rs1 rs2 imm)
unfolding meaning
tame_bne may rs1 rs2 imm = record {
  plain = λ f pc. branch_plain (not (eqb (register f rs1) (register f rs2))) (sum_64 pc (word imm)) pc;
  keeps = λ seen f pc r x other.
      kept_branch seen f pc r x (not (eqb (register f rs1) (register f rs2))) (sum_64 pc (word imm));
}

pub tame_beq : (may : ℕ → Bool) (rs1 rs2 : ℕ) (imm : ℤ) → IsTame may (inst.Beq rs1 rs2 imm)
unfolding meaning
tame_beq may rs1 rs2 imm = record {
  plain = λ f pc. branch_plain (eqb (register f rs1) (register f rs2)) (sum_64 pc (word imm)) pc;
  keeps = λ seen f pc r x other.
      kept_branch seen f pc r x (eqb (register f rs1) (register f rs2)) (sum_64 pc (word imm));
}

pub tame_jal : (may : ℕ → Bool) (imm : ℤ) → IsTame may (inst.Jal 0 imm)
unfolding meaning
tame_jal may imm = record {
  plain = λ f pc. go_plain 0 (sum_64 pc 4) (sum_64 pc (word imm)) (eqb (sum_64 pc (word imm) % 4) 0);
  keeps = λ seen f pc r x other.
      kept_go seen f pc r x (sum_64 pc (word imm)) (sum_64 pc 4) (eqb (sum_64 pc (word imm) % 4) 0);
}

-- WORDS

-- how a word of a block leads on: to the next, but not to the signature; to the first; to the one at the
-- post-commit address; or behind the block
pub data Leads (form : Form) (k to : ℕ) : Type 0 where
  goes_on : to ≡ k + 1 → k ≢ committed form → Leads form k to
  begins_anew : to ≡ 0 → Leads form k to
  leads_out : to ≡ committed form → Leads form k to
  leaves_block : to ≡ length form.words → Leads form k to

-- word k of a block
pub record IsWord (form : Form) (k : ℕ) (i : Inst) : Type 0 where
  pub tame : IsTame form.may i
  pub leads : (seen : ℕ → Option ℕ) (f : Regs) (pc at : ℕ) (r : Option ℕ) → pc ≡ at + 4 * k → at % 4 ≡ 0
      → at < 2 ^ 37
      → (to : ℕ) × Leads form k to × ((outcome seen f pc r (meaning i f pc)).pc ≡ at + 4 * to)

module _ (form : Form) (k : ℕ) (short : k < 2 ^ 8) where
  pub straight_word : (i : Inst) → k ≢ committed form → IsStraight form.may i → IsWord form k i
  straight_word i inner straight = record {
    tame = straight.tame;
    leads = λ seen f pc at r is aligned low. (
      k + 1,
      goes_on refl inner,
      straight.on seen f pc r ∙ ap (λ n. sum_64 n 4) is ∙ omega arith,
    );
  }

  either_word : (seen : ℕ → Option ℕ) (at pc now to : ℕ) → pc ≡ at + 4 * k → at < 2 ^ 37 → k ≢ committed form
      → Leads form k to → (now ≡ at + 4 * to) ⊎ (now ≡ sum_64 pc 4)
      → (go : ℕ) × Leads form k go × (now ≡ at + 4 * go)
  either_word seen at pc now to is low inner leads (inl there) = (to, leads, there)
  either_word seen at pc now to is low inner leads (inr next) =
      (k + 1, goes_on refl inner, next ∙ ap (λ n. sum_64 n 4) is ∙ omega arith)

  -- a branch back to the first word
  pub bne_anew : (rs1 rs2 n : ℕ) → n + 1 ≡ 4 * k → k ≢ committed form
      → IsWord form k (inst.Bne rs1 rs2 (negsuc n))
  bne_anew rs1 rs2 n far inner = record {
    tame = tame_bne form.may rs1 rs2 (negsuc n);
    leads = λ seen f pc at r is aligned low.
        either_word seen at pc (outcome seen f pc r (meaning (inst.Bne rs1 rs2 (negsuc n)) f pc)).pc 0 is low
        inner
        (begins_anew refl)
        (bne_pc rs1 rs2 (negsuc n) seen f pc (at + 4 * 0) r (omega (arith, ints)) (omega arith));
  }

  -- a branch to the post-commit address
  branch_out : (i : Inst) (n : ℕ) → IsTame form.may i → 4 * k + n ≡ 4 * committed form → committed form < 2 ^ 8
      → k ≢ committed form → IsBranch i (pos n) → IsWord form k i
  branch_out i n tame far near inner goes = record {
    tame = tame;
    leads = λ seen f pc at r is aligned low.
        either_word seen at pc (outcome seen f pc r (meaning i f pc)).pc (committed form) is low inner
        (leads_out refl)
        (goes seen f pc (at + 4 * committed form) r (omega (arith, ints)) (omega arith));
  }

  pub beq_out : (rs1 rs2 n : ℕ) → 4 * k + n ≡ 4 * committed form → committed form < 2 ^ 8 → k ≢ committed form
      → IsWord form k (inst.Beq rs1 rs2 (pos n))
  beq_out rs1 rs2 n far near inner =
      branch_out (inst.Beq rs1 rs2 (pos n)) n (tame_beq form.may rs1 rs2 (pos n)) far near inner
      (beq_pc rs1 rs2 (pos n))

  pub bne_out : (rs1 rs2 n : ℕ) → 4 * k + n ≡ 4 * committed form → committed form < 2 ^ 8 → k ≢ committed form
      → IsWord form k (inst.Bne rs1 rs2 (pos n))
  bne_out rs1 rs2 n far near inner =
      branch_out (inst.Bne rs1 rs2 (pos n)) n (tame_bne form.may rs1 rs2 (pos n)) far near inner
      (bne_pc rs1 rs2 (pos n))

  -- the jumps
  pub jal_anew : (n : ℕ) → n + 1 ≡ 4 * k → IsWord form k (inst.Jal 0 (negsuc n))
  jal_anew n far = record {
    tame = tame_jal form.may (negsuc n);
    leads = λ seen f pc at r is aligned low. (
      0,
      begins_anew refl,
      jal_pc seen f pc (at + 4 * 0) r 0 (negsuc n) (omega (arith, ints)) (omega arith),
    );
  }

  pub jal_out : (n : ℕ) → 4 * k + n ≡ 4 * length form.words → length form.words < 2 ^ 8
      → IsWord form k (inst.Jal 0 (pos n))
  jal_out n far near = record {
    tame = tame_jal form.may (pos n);
    leads = λ seen f pc at r is aligned low. (
      length form.words,
      leaves_block refl,
      jal_pc seen f pc (at + 4 * length form.words) r 0 (pos n) (omega (arith, ints)) (omega arith),
    );
  }
