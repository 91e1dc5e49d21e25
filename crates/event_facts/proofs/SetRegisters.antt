-- An instruction sets one register at most, and the others stay: all that is told of registers is told of that one.
use Rattle.std.proofs.Common.{◌≡◌, ◌≢◌, ℕ, zero, suc, ◌+◌, ◌<◌, ◌≤◌, List, [], ◌∷◌, ◌++◌, length, set, get_or, refl, sym, ap, ◌∙◌, arith, append-nil, eqb, Bool, true, false, cond, Option, Some, None}
use Rattle.std.proofs.lemmas.Bool.{eqb-false, eqb-true}
use Rattle.std.proofs.lemmas.List.{get_or-set_other, get_or_past}
use Rattle.std.specs.List.{flat_map, range_with_len}
use Rattle.mach_types.proofs.Laws.{eqb_same}
use Rattle.mach_types.specs.Registers.{register, with_register}
use Rattle.mach_types.specs.declared.registers.Regs.{Regs}
use Rattle.rv_inst.specs.Execution.{Outcome, is_reserved, outcome}
use Rattle.rv_inst.specs.declared.effects.Effect.{Effect}
use Rattle.rv_inst.specs.declared.effects.Effect.TheVariants as effect
use Rattle.block_model.specs.Here.{runs}
use Rattle.block_model.specs.Run.{IsBlockRun}
use Rattle.block_model.specs.Setting.{Seen}
use Rattle.block_model.proofs.Laws.{has_registers}
use Rattle.process.specs.Harts.{file_on}
use Rattle.fact_types.specs.declared.facts.Fact.{Fact}
use Rattle.fact_types.specs.declared.facts.Fact.TheVariants.{Register}
use Rattle.event_facts.specs.Facts.{register_fact, register_facts}
use Rattle.event_facts.specs.Telling.{here_on, past_of, register_set, registers_on}

-- pieces of which only that of one number has anything
none_from : {A : Type 0} (f : ℕ → List A) (n : ℕ) → ((k : ℕ) → k ≢ n → f k ≡ []) → (count a : ℕ) → n < a → flat_map f (range_with_len a count) ≡ []
none_from f n others zero a past = refl
none_from f n others (suc count) a past =
    ap (λ l. l ++ flat_map f (range_with_len (a + 1) count)) (others a (λ same. absurd (omega (arith, same)))) ∙ none_from f n others count (a + 1) (omega arith)

pub only_one : {A : Type 0} (f : ℕ → List A) (n : ℕ) → ((k : ℕ) → k ≢ n → f k ≡ []) → (count a : ℕ) → a ≤ n → (a + count ≤ n → f n ≡ [])
    → flat_map f (range_with_len a count) ≡ f n
only_one f n others zero a low high = sym (high (omega arith))
only_one f n others (suc count) a low high =
    go (eqb a n) refl (λ differs. only_one f n others count (a + 1) (omega (arith, differs)) (λ past. high (omega (arith, past))))
  where
    go : (b : Bool) → eqb a n ≡ b → (a ≢ n → flat_map f (range_with_len (a + 1) count) ≡ f n) → f a ++ flat_map f (range_with_len (a + 1) count) ≡ f n
    go true is further =
        let same = eqb-true a n is in
        (λ i. f (same i) ++ none_from f n others count (a + 1) (omega (arith, same)) i) ∙ append-nil (f n)
    go false is further =
        let differs : a ≢ n = eqb-false a n is in
        ap (λ l. l ++ flat_map f (range_with_len (a + 1) count)) (others a differs) ∙ further differs

-- a register after another one was written
written_other : (r : Regs) (rd v k : ℕ) → k ≢ rd → register (with_register r rd v) k ≡ register r k
written_other r rd v k other = by_numbers (eqb rd 0) (eqb k 0)
  where
    by_numbers : (b c : Bool) → cond c 0 (get_or (cond b r (record { x = set r.x rd v })).x k 0) ≡ cond c 0 (get_or r.x k 0)
    by_numbers true c = refl
    by_numbers false true = refl
    by_numbers false false = get_or-set_other r.x rd k v 0 other

-- the registers that an instruction doesn't set
pub others_stay : (view : ℕ → Option ℕ) (r : Regs) (pc : ℕ) (reserved : Option ℕ) (e : Effect) (k : ℕ) → k ≢ register_set e
    → register (outcome view r pc reserved e).regs k ≡ register r k
others_stay view r pc reserved (effect.Next rd value to) k other = written_other r rd value k other
others_stay view r pc reserved (effect.Load at size is_signed rd) k other = written_other r rd _ k other
others_stay view r pc reserved (effect.Amo op at size value rd) k other = written_other r rd _ k other
others_stay view r pc reserved (effect.Lr at size rd) k other = written_other r rd _ k other
others_stay view r pc reserved (effect.Sc at size value rd) k other = either (is_reserved reserved at) _ _ (written_other r rd 0 k other) (written_other r rd 1 k other)
  where
    either : (b : Bool) (x y : Outcome) → register x.regs k ≡ register r k → register y.regs k ≡ register r k → register (cond b x y).regs k ≡ register r k
    either true x y p q = p
    either false x y p q = q
others_stay view r pc reserved e k other = refl

-- there are 32 registers
pub many_on : (m : Seen) (h : ℕ) → IsBlockRun m.setting m.log → length (registers_on m h).x ≡ 32
many_on m h run = go (runs (here_on m h))
  where
    go : (o : Option ℕ) → length (file_on (here_on m h) o).file.x ≡ 32
    go None = refl
    go (Some t) = has_registers m.setting (past_of m) run.allowed t

past_last : (r : Regs) (n : ℕ) → length r.x ≡ 32 → 32 ≤ n → register r n ≡ 0
past_last r n many past = ap (λ v. cond (eqb n 0) 0 v) (get_or_past r.x n 0 (omega (arith, many))) ∙ zero_always (eqb n 0)
  where
    zero_always : (b : Bool) → ◌≡◌ {A = ℕ} (cond b 0 0) 0
    zero_always true = refl
    zero_always false = refl

-- of a register that stayed nothing is told
same_fact : (r r' : Regs) (k : ℕ) → register r' k ≡ register r k → register_fact r r' k ≡ []
same_fact r r' k same =
    ap (λ v. let l : List Fact = cond (eqb (register r k) v) [] (Register k v ∷ []) in l) same
    ∙ ap (λ b. let l : List Fact = cond b [] (Register k (register r k) ∷ []) in l) (eqb_same (register r k))

-- so where all but one stayed, that one is told
pub one_told : (r r' : Regs) (n : ℕ) → length r.x ≡ 32 → length r'.x ≡ 32 → ((k : ℕ) → k ≢ n → register r' k ≡ register r k)
    → register_facts r r' ≡ register_fact r r' n
one_told r r' n many many' stay =
    only_one (register_fact r r') n (λ k other. same_fact r r' k (stay k other)) 32 0 (omega arith)
    (λ past. same_fact r r' n (past_last r' n many' (omega (arith, past)) ∙ sym (past_last r n many (omega (arith, past)))))
