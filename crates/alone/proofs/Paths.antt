-- A path, instruction by instruction: each takes the proof of what comes after it.
use Rattle.std.proofs.Common.{◌≡◌, ℕ, zero, suc, ◌+◌, ◌*◌, ◌-◌, ◌%◌, ◌^◌, ◌<◌, ◌≤◌, List, [], ◌∷◌, ◌++◌, refl, sym, ap}
use Rattle.std.proofs.Common.{◌∙◌, arith, subst, Bool, true, false, eqb, ltb, Some, inl, inr}
use Rattle.std.proofs.lemmas.Bool.{false≢true, lt-ltb, ltb-true}
use Rattle.mach_types.specs.Bytes.{each_byte, word_at}
use Rattle.mach_types.specs.Kernel.Areas.{is_inside}
use Rattle.mach_types.specs.declared.registers.Regs.{Regs}
use Rattle.mach_types.specs.declared.sequences.Seq.{Seq}
use Rattle.mach_types.specs.declared.user_memory.Store.{Store}
use Rattle.rv_inst.specs.Execution.{seen_byte}
use Rattle.rv_inst.specs.Meaning.{meaning}
use Rattle.rv_inst.specs.Memory.{loaded}
use Rattle.rv_inst.specs.Words.{sum_64}
use Rattle.rv_inst.specs.declared.effects.Effect.{Effect}
use Rattle.rv_inst.specs.declared.effects.Effect.TheVariants as effect
use Rattle.rv_inst.specs.declared.instruction.Inst.{Inst}
use Rattle.alone.specs.Alone.{IsWithin, Stand, alone, next_stand}
use Rattle.alone.specs.Paths.{BeginInside, IsForth, IsOn, IsReady, KeepsOn, Path}
use Rattle.alone.specs.Temps.{IsAt, IsLike, put}
use Rattle.alone.proofs.Laws.{at_branch, at_load, at_next, at_store, effect_there}

-- an address so many bytes past the start of a range is inside where the range is longer, and outside where
-- it isn't
pub inside_is : (g : Seq) (k : ℕ) → g.start < 2 ^ 40 → k < 2 ^ 40 → k < g.length
    → is_inside g (g.start + k) ≡ true
inside_is g k low few lt =
    let far : (g.start + k + (2 ^ 64 - g.start)) % 2 ^ 64 ≡ k = omega arith in
    ap (λ n. ltb n g.length) far ∙ lt-ltb k g.length lt

-- one instruction first, and then the rest
shifted : (w : Path) (x : Stand) (n : ℕ)
    → alone w.code w.seen x (suc n) ≡ alone w.code w.seen (next_stand w.code w.seen x) n
shifted w x zero = refl
shifted w x (suc n) = ap (next_stand w.code w.seen) (shifted w x n)

module _ (w : Path) (at : ℕ) (temps : ℕ → ℕ) (stores : List Store) (x : Stand)
    (was : IsAt w.may w.old at temps stores x) where
  -- it has left
  pub leaves : is_inside w.range at ≡ false → w.Left at temps stores → KeepsOn w x
  leaves out left zero begin = record {
    at = at;
    temps = temps;
    stores = stores;
    stands = was;
    inside = λ is. absurd (false≢true (sym out ∙ is));
    left = λ is. left;
  }
  leaves out left (suc n) begin = absurd (false≢true
      (sym (ap (is_inside w.range) was.pc ∙ out) ∙ begin 0 (omega arith)))

  -- it executes an instruction, and goes on
  goes : is_inside w.range at ≡ true → w.Inside stores → IsReady w.code w.words x
      → IsForth w.range at (next_stand w.code w.seen x).file.pc
      → KeepsOn w (next_stand w.code w.seen x) → KeepsOn w x
  goes here keeps ready forth on zero begin = record {
    at = at;
    temps = temps;
    stores = stores;
    stands = was;
    inside = λ is. (keeps, ready, forth);
    left = λ out. absurd (false≢true (sym out ∙ here));
  }
  goes here keeps ready forth on (suc n) begin =
      subst (IsOn w) (sym (shifted w x n))
      (on n (λ k lt. sym (ap (λ (y : Stand). is_inside w.range y.file.pc) (shifted w x k))
      ∙ begin (suc k) (omega arith)))

  -- where it stands then
  lands : (to : ℕ) {temps : ℕ → ℕ} {stores : List Store}
      → IsAt w.may w.old to temps stores (next_stand w.code w.seen x) → IsForth w.range at to
      → IsForth w.range at (next_stand w.code w.seen x).file.pc
  lands to now forth = subst (IsForth w.range at) (sym now.pc) forth

  module _ (here : is_inside w.range at ≡ true) (keeps : w.Inside stores) (i : Inst)
      (there : w.code at ≡ Some i) where
    does : (e : Effect) → ((f : Regs) → IsLike w.may w.old temps f → meaning i f at ≡ e) → IsWithin w.words e
        → IsForth w.range at (next_stand w.code w.seen x).file.pc
        → KeepsOn w (next_stand w.code w.seen x) → KeepsOn w x
    does e means within forth on =
        goes here keeps (e, effect_there w.code w.may w.old at temps stores x i e was there means, within) forth on

    pub then_next : (rd v to : ℕ) → ((f : Regs) → IsLike w.may w.old temps f → meaning i f at ≡ effect.Next rd
        v to)
        → w.may rd ≡ true → eqb rd 0 ≡ false → rd < 32 → at + 4 ≤ to → to < 2 ^ 40
        → ((y : Stand) → IsAt w.may w.old to (put rd v temps) stores y → KeepsOn w y) → KeepsOn w x
    then_next rd v to means may some low far near on =
        let next = at_next w.code w.seen w.may w.old at temps stores x i rd v to was there means may some low in
        does (effect.Next rd v to) means tt (lands to next (inl (far, near))) (on _ next)

    pub then_branch : (v to : ℕ) → ((f : Regs) → IsLike w.may w.old temps f → meaning i f at ≡ effect.Next 0 v
        to)
        → IsForth w.range at to
        → ((y : Stand) → IsAt w.may w.old to temps stores y → KeepsOn w y) → KeepsOn w x
    then_branch v to means forth on =
        let next = at_branch w.code w.seen w.may w.old at temps stores x i v to was there means in
        does (effect.Next 0 v to) means tt (lands to next forth) (on _ next)

    pub then_load : (from size rd v to : ℕ) (is_signed : Bool)
        → ((f : Regs) → IsLike w.may w.old temps f → meaning i f at ≡ effect.Load from size is_signed rd)
        → each_byte w.words from size ≡ true → word_at (seen_byte stores w.seen) from size ≡ Some v
        → w.may rd ≡ true → eqb rd 0 ≡ false → rd < 32 → sum_64 at 4 ≡ to → at + 4 ≤ to → to < 2 ^ 40
        → ((y : Stand) → IsAt w.may w.old to (put rd (loaded v size is_signed) temps) stores y → KeepsOn w y)
        → KeepsOn w x
    then_load from size rd v to is_signed means within reads may some low on far near rest =
        let next = at_load w.code w.seen w.may w.old at temps stores x i from size rd v to is_signed was there
        means reads may some low on in
        does (effect.Load from size is_signed rd) means within (lands to next (inl (far, near))) (rest _ next)

    pub then_store : (into size v to : ℕ) → ((f : Regs) → IsLike w.may w.old temps f → meaning i f
        at ≡ effect.Store into size v)
        → each_byte w.words into size ≡ true → sum_64 at 4 ≡ to → at + 4 ≤ to → to < 2 ^ 40
        → ((y : Stand) → IsAt w.may w.old to temps
        (stores ++ record { at = into; size = size; value = v } ∷ []) y → KeepsOn w y) → KeepsOn w x
    then_store into size v to means within on far near rest =
        let next = at_store w.code w.seen w.may w.old at temps stores x i into size v to was there means on in
        does (effect.Store into size v) means within (lands to next (inl (far, near))) (rest _ next)

-- HOW LONG IT IS

-- a path that begins at the start of its range is left after at most one instruction for each 4 bytes of it
module _ (w : Path) (x : Stand) (keeps : KeepsOn w x) (starts : x.file.pc ≡ w.range.start)
    (low : w.range.start < 2 ^ 40) where
  abbrev pc_at : ℕ → ℕ
  pc_at n = (alone w.code w.seen x n).file.pc

  abbrev IsFurther : ℕ → Type 0
  IsFurther n = (w.range.start + 4 * n ≤ pc_at n) × (pc_at n < 2 ^ 40)

  further : (n : ℕ) → BeginInside w x n → is_inside w.range (pc_at n) ≡ true → IsFurther n
  further zero begin here = (omega (arith, starts), omega (arith, starts))
  further (suc n) begin here =
      let inside = begin n (omega arith) in
      let on = keeps n (λ k lt. begin k (omega arith)) in
      by_forth on.at on.stands.pc (further n (λ k lt. begin k (omega arith)) inside)
      (on.inside (ap (is_inside w.range) (sym on.stands.pc) ∙ inside)).2
    where
      by_forth : (at : ℕ) → pc_at n ≡ at → IsFurther n → IsForth w.range at (pc_at (suc n)) → IsFurther (suc n)
      by_forth at pc was (inl far) =
          let one = was.0 in
          let two = far.0 in
          let near = far.1 in (omega (arith, pc), near)
      by_forth at pc was (inr out) = absurd (false≢true (sym out ∙ here))

  pub few_inside : (n : ℕ) → BeginInside w x n → is_inside w.range (pc_at n) ≡ true → 4 * n < w.range.length
  few_inside n begin here =
      let far = further n begin here in
      let one = far.0 in
      let near = far.1 in
      let within = ltb-true ((pc_at n + (2 ^ 64 - w.range.start)) % 2 ^ 64) w.range.length here in
      let same : (pc_at n + (2 ^ 64 - w.range.start)) % 2 ^ 64 ≡ pc_at n - w.range.start = omega arith in
      omega (arith, same)
