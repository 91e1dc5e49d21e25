-- What one instruction of a thread that runs alone does.
use Rattle.std.proofs.Common.{◌≡◌, ◌≢◌, ℕ, zero, suc, ◌<◌, ◌%◌, ◌^◌, List, [], ◌∷◌, ◌++◌, length, set}
use Rattle.std.proofs.Common.{length-set, refl, sym, ap, ◌∙◌, arith, subst, Bool, true, false, cond, eqb}
use Rattle.std.proofs.Common.{get_or, Option, Some, None, unwrap_or, append-nil}
use Rattle.std.proofs.lemmas.Bool.{eqb-true, eqb-false}
use Rattle.std.specs.Int.{w64}
use Rattle.std.proofs.lemmas.Int.{of_z-to_z}
use Rattle.std.proofs.lemmas.List.{get_or-set_same, get_or-set_other}
use Rattle.std.specs.Option.{option_map, option_map_or}
use Rattle.mach_types.specs.Bytes.{word_at}
use Rattle.mach_types.specs.Registers.{register, with_register}
use Rattle.mach_types.specs.declared.registers.Regs.{Regs}
use Rattle.mach_types.specs.declared.user_memory.Store.{Store}
use Rattle.rv_inst.specs.Execution.{seen_byte, word_seen}
use Rattle.rv_inst.specs.Meaning.{meaning}
use Rattle.rv_inst.specs.Memory.{loaded}
use Rattle.rv_inst.specs.Words.{sum_64}
use Rattle.rv_inst.specs.declared.effects.Effect.{Effect}
use Rattle.rv_inst.specs.declared.effects.Effect.TheVariants as effect
use Rattle.rv_inst.specs.declared.instruction.Inst.{Inst}
use Rattle.alone.specs.Alone.{Stand, effect_at, next_stand, outcome_at, stand_after}
use Rattle.alone.specs.Temps.{IsAt, IsLike, put}

-- a register after a write to another one, and to itself
pub written_other : (f : Regs) (rd v r : ℕ) → r ≢ rd → register (with_register f rd v) r ≡ register f r
written_other f rd v r other = by_rd (eqb rd 0) (eqb r 0)
  where
    by_rd : (b c : Bool) → cond c 0 (get_or (cond b f (record { x = set f.x rd v })).x r 0) ≡ cond c 0
        (get_or f.x r 0)
    by_rd true c = refl
    by_rd false true = refl
    by_rd false false = get_or-set_other f.x rd r v 0 other

pub written_same : (f : Regs) (rd v : ℕ) → eqb rd 0 ≡ false → rd < length f.x
    → register (with_register f rd v) rd ≡ v
written_same f rd v some lt =
    ap (λ b. cond b 0 (get_or (cond b f (record { x = set f.x rd v })).x rd 0)) some
    ∙ get_or-set_same f.x rd v 0 lt

pub written_many : (f : Regs) (rd v : ℕ) → length (with_register f rd v).x ≡ length f.x
written_many f rd v = by_rd (eqb rd 0)
  where
    by_rd : (b : Bool) → length (cond b f (record { x = set f.x rd v })).x ≡ length f.x
    by_rd true = refl
    by_rd false = length-set f.x rd v

-- registers after a write to one that may change; and to x0
pub like_put : (may : ℕ → Bool) (old : Regs) (temps : ℕ → ℕ) (f : Regs) (rd v : ℕ) → IsLike may old temps f
    → may rd ≡ true → eqb rd 0 ≡ false → rd < 32 → IsLike may old (put rd v temps) (with_register f rd v)
like_put may old temps f rd v was may_change some low = record {
  temp = λ r may. temp r (eqb r rd) refl may;
  rest = λ r kept. written_other f rd v r (λ same. no_both r same kept) ∙ was.rest r kept;
  many = written_many f rd v ∙ was.many;
}
  where
    temp : (r : ℕ) (b : Bool) → eqb r rd ≡ b → may r ≡ true
        → register (with_register f rd v) r ≡ cond (eqb r rd) v (temps r)
    temp r true is changes =
        let same = eqb-true r rd is in
        ap (λ n. register (with_register f rd v) n) same
        ∙ written_same f rd v some (subst (λ n. rd < n) (sym was.many) low)
        ∙ ap (λ b. cond b v (temps r)) (sym is)
    temp r false is changes = written_other f rd v r (eqb-false r rd is) ∙ was.temp r changes
        ∙ ap (λ b. cond b v (temps r)) (sym is)

    no_both : (r : ℕ) → r ≡ rd → may r ≡ false → ⊥
    no_both r same kept =
        let t : may r ≡ true = ap may same ∙ may_change in
        cc

-- the next instruction, with its effect
pub next_is : (code : ℕ → Option Inst) (seen : ℕ → Option ℕ) (x : Stand) (i : Inst) (e : Effect)
    → code x.file.pc ≡ Some i → meaning i x.file.file x.file.pc ≡ e
    → next_stand code seen x ≡ stand_after x (outcome_at seen x e)
next_is code seen x i e there means =
    let found : effect_at code x.file ≡ Some e =
    ap (option_map (λ j. meaning j x.file.file x.file.pc)) there ∙ ap Some means in
    ap (λ o. option_map_or (λ d. stand_after x (outcome_at seen x d)) o x) found

-- the effect of the next instruction, where the thread stands
abbrev Means : (ℕ → Bool) → Regs → (ℕ → ℕ) → Inst → ℕ → Effect → Type 0
Means may old temps i at e = (f : Regs) → IsLike may old temps f → meaning i f at ≡ e

effect_is : (code : ℕ → Option Inst) (seen : ℕ → Option ℕ) (may : ℕ → Bool) (old : Regs) (at : ℕ)
    (temps : ℕ → ℕ) (stores : List Store) (x : Stand)
    (i : Inst) (e : Effect) → IsAt may old at temps stores x → code at ≡ Some i → Means may old temps i at e
    → next_stand code seen x ≡ stand_after x (outcome_at seen x e)
effect_is code seen may old at temps stores x i e was there means =
    next_is code seen x i e (ap code was.pc ∙ there)
    (ap (meaning i x.file.file) was.pc ∙ means x.file.file was.like)

-- after an instruction that sets a register; that only goes on or branches; that loads; and that stores
pub at_next : (code : ℕ → Option Inst) (seen : ℕ → Option ℕ) (may : ℕ → Bool) (old : Regs) (at : ℕ)
    (temps : ℕ → ℕ) (stores : List Store) (x : Stand)
    (i : Inst) (rd v to : ℕ) → IsAt may old at temps stores x → code at ≡ Some i
    → Means may old temps i at (effect.Next rd v to)
    → may rd ≡ true → eqb rd 0 ≡ false → rd < 32
    → IsAt may old to (put rd v temps) stores (next_stand code seen x)
at_next code seen may old at temps stores x i rd v to was there means may_change some low =
    subst (IsAt may old to (put rd v temps) stores)
    (sym (effect_is code seen may old at temps stores x i (effect.Next rd v to) was there means))
    (record {
      pc = refl;
      like = like_put may old temps x.file.file rd v was.like may_change some low;
      executed = append-nil x.executed ∙ was.executed;
    })

pub at_branch : (code : ℕ → Option Inst) (seen : ℕ → Option ℕ) (may : ℕ → Bool) (old : Regs) (at : ℕ)
    (temps : ℕ → ℕ) (stores : List Store) (x : Stand)
    (i : Inst) (v to : ℕ) → IsAt may old at temps stores x → code at ≡ Some i
    → Means may old temps i at (effect.Next 0 v to)
    → IsAt may old to temps stores (next_stand code seen x)
at_branch code seen may old at temps stores x i v to was there means =
    subst (IsAt may old to temps stores) (sym
    (effect_is code seen may old at temps stores x i (effect.Next 0 v to) was there means)) (record {
      pc = refl;
      like = was.like;
      executed = append-nil x.executed ∙ was.executed;
    })

pub at_load : (code : ℕ → Option Inst) (seen : ℕ → Option ℕ) (may : ℕ → Bool) (old : Regs) (at : ℕ)
    (temps : ℕ → ℕ) (stores : List Store) (x : Stand)
    (i : Inst) (from size rd w to : ℕ) (is_signed : Bool) → IsAt may old at temps stores x → code at ≡ Some i
    → Means may old temps i at (effect.Load from size is_signed rd)
    → word_at (seen_byte stores seen) from size ≡ Some w
    → may rd ≡ true → eqb rd 0 ≡ false → rd < 32 → sum_64 at 4 ≡ to
    → IsAt may old to (put rd (loaded w size is_signed) temps) stores (next_stand code seen x)
at_load code seen may old at temps stores x i from size rd w to is_signed was there means reads may_change
    some low on =
    let read : word_seen (seen_byte x.executed seen) from size ≡ w =
    ap (λ (es : List Store). word_seen (seen_byte es seen) from size) was.executed
    ∙ ap (λ o. unwrap_or o 0) reads in
    subst (IsAt may old to (put rd (loaded w size is_signed) temps) stores)
    (sym (effect_is code seen may old at temps stores x i (effect.Load from size is_signed rd) was there
    means)) (record {
      pc = ap (λ n. sum_64 n 4) was.pc ∙ on;
      like = subst (λ n. IsLike may old (put rd (loaded w size is_signed) temps)
          (with_register x.file.file rd (loaded n size is_signed))) (sym read)
          (like_put may old temps x.file.file rd (loaded w size is_signed) was.like may_change some low);
      executed = append-nil x.executed ∙ was.executed;
    })

pub at_store : (code : ℕ → Option Inst) (seen : ℕ → Option ℕ) (may : ℕ → Bool) (old : Regs) (at : ℕ)
    (temps : ℕ → ℕ) (stores : List Store) (x : Stand)
    (i : Inst) (into size v to : ℕ) → IsAt may old at temps stores x → code at ≡ Some i
    → Means may old temps i at (effect.Store into size v) → sum_64 at 4 ≡ to
    → IsAt may old to temps (stores ++ record { at = into; size = size; value = v } ∷ [])
    (next_stand code seen x)
at_store code seen may old at temps stores x i into size v to was there means on =
    subst (IsAt may old to temps (stores ++ record { at = into; size = size; value = v } ∷ []))
    (sym (effect_is code seen may old at temps stores x i (effect.Store into size v) was there means))
    (record {
      pc = ap (λ n. sum_64 n 4) was.pc ∙ on;
      like = was.like;
      executed = ap (λ (es : List Store). es ++ record { at = into; size = size; value = v } ∷ [])
          was.executed;
    })

-- with no store of its own a thread sees what was seen
some_same : (o : Option ℕ) → option_map (λ b. b) o ≡ o
some_same None = refl
some_same (Some b) = refl

pub word_unchanged : (seen : ℕ → Option ℕ) (at n : ℕ) → word_at (seen_byte [] seen) at n ≡ word_at seen at n
word_unchanged seen at n = ap (λ (g : ℕ → Option ℕ). word_at g at n) (λ i a. some_same (seen a) i)

-- a small number of 4 bytes, and a number of 8, as they are loaded
pub loaded_small : (n : ℕ) → n < 8 → loaded n 4 true ≡ n
loaded_small zero lt = refl
loaded_small (suc zero) lt = refl
loaded_small (suc (suc zero)) lt = refl
loaded_small (suc (suc (suc zero))) lt = refl
loaded_small (suc (suc (suc (suc zero)))) lt = refl
loaded_small (suc (suc (suc (suc (suc zero))))) lt = refl
loaded_small (suc (suc (suc (suc (suc (suc zero)))))) lt = refl
loaded_small (suc (suc (suc (suc (suc (suc (suc zero))))))) lt = refl
loaded_small (suc (suc (suc (suc (suc (suc (suc (suc n)))))))) lt = absurd (omega arith)

pub loaded_word : (n : ℕ) → loaded n 8 true ≡ n % 2 ^ 64
loaded_word n = of_z-to_z w64 (n % 2 ^ 64) (omega arith)

-- the effect of the next instruction, where it stands
pub effect_there : (code : ℕ → Option Inst) (may : ℕ → Bool) (old : Regs) (at : ℕ) (temps : ℕ → ℕ)
    (stores : List Store) (x : Stand)
    (i : Inst) (e : Effect) → IsAt may old at temps stores x → code at ≡ Some i → Means may old temps i at e
    → effect_at code x.file ≡ Some e
effect_there code may old at temps stores x i e was there means =
    ap (option_map (λ j. meaning j x.file.file x.file.pc)) (ap code was.pc ∙ there)
    ∙ ap Some (ap (meaning i x.file.file) was.pc ∙ means x.file.file was.like)
