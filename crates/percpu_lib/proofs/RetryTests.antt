-- Tests that find that a stretch of a log is a walk of a thread at words of a block, by computation.
use Rattle.std.proofs.Common.{◌≡◌, ℕ, List, [], ◌∷◌, ◌++◌, refl, sym, ap, ◌∙◌, subst, Bool, true, false, not, ◌&&◌}
use Rattle.std.proofs.Common.{eqb, Option, Some, None, is_none, inl, inr, append_assoc, append-nil}
use Rattle.std.specs.Option.{option_map_or}
use Rattle.std.proofs.lemmas.Bool.{and_parts, eqb-false, eqb-true, false≢true, not-true}
use Rattle.mach_types.specs.Events.{choice_with, nature_of}
use Rattle.mach_types.specs.declared.events.Entry.{Entry}
use Rattle.mach_types.specs.declared.events.Kind.{Kind}
use Rattle.mach_types.specs.declared.events.Kind.TheVariants as kind
use Rattle.mach_types.specs.declared.events.Maker.{Maker}
use Rattle.mach_types.specs.declared.events.Maker.TheVariants.{Thread, Buffer, Kernel}
use Rattle.mach_types.specs.declared.registers.Regs.{Regs}
use Rattle.rv_inst.specs.Class.{is_call}
use Rattle.rv_inst.specs.declared.effects.Effect.{Effect}
use Rattle.block_model.specs.Deciding.{history}
use Rattle.block_model.specs.Events.Exec.{next_effect, next_fault}
use Rattle.block_model.specs.History.{History, file, here_in_history, running}
use Rattle.block_model.specs.Setting.{Setting}
use Rattle.block_model.specs.Walks.{AreOfWalk, IsOfWalk}
use Rattle.block_model.proofs.Laws.{history-append}
use Rattle.alone_laws.specs.Retries.{IsAtWork, IsWalkAtWork, post_commit}
use Rattle.alone_laws.specs.Uses.{Placed, in_block}

-- an instruction that passes a test, or a store that enters memory
abbrev is_step_by : Maker → Bool → Bool
is_step_by Thread passes = passes
is_step_by Buffer passes = true
is_step_by Kernel passes = false

abbrev is_step : Kind → Bool → Bool
is_step k passes = is_step_by (nature_of k).maker passes

none_is : (o : Option ℕ) → is_none o ≡ true → o ≡ None
none_is None is = refl
none_is (Some n) is = absurd (false≢true is)

-- registers that are the same, one after another
abbrev same_numbers : List ℕ → List ℕ → Bool
same_numbers [] [] = true
same_numbers [] (y ∷ ys) = false
same_numbers (x ∷ xs) [] = false
same_numbers (x ∷ xs) (y ∷ ys) = eqb x y && same_numbers xs ys

numbers_are : (xs ys : List ℕ) → same_numbers xs ys ≡ true → xs ≡ ys
numbers_are [] [] is = refl
numbers_are [] (y ∷ ys) is = absurd (false≢true is)
numbers_are (x ∷ xs) [] is = absurd (false≢true is)
numbers_are (x ∷ xs) (y ∷ ys) is =
    let parts = and_parts (eqb x y) (same_numbers xs ys) is in
    ap (λ n. n ∷ xs) (eqb-true x y parts.0) ∙ ap (λ (zs : List ℕ). y ∷ zs) (numbers_are xs ys parts.1)

abbrev pub same_registers : Regs → Regs → Bool
same_registers f g = same_numbers f.x g.x

pub registers_are : (f g : Regs) → same_registers f g ≡ true → f ≡ g
registers_are f g is = let same = numbers_are f.x g.x is in λ i. record { x = same i }

module _ (s : Setting) (b : Placed) (h t : ℕ) where
  abbrev is_at_work : History → Bool
  is_at_work before = in_block b (file s t before).pc && not (eqb (file s t before).pc (post_commit b))

  -- neither a fault nor a call
  abbrev is_plain : History → Bool
  is_plain before =
      is_none (next_fault (here_in_history s before h) t)
      && not (option_map_or is_call (next_effect (here_in_history s before h) t) false)

  -- a stretch behind a log
  abbrev pub walks_at_work : List Entry → List Entry → Bool
  walks_at_work log [] = is_at_work (history s log)
  walks_at_work log (x ∷ rest) =
      is_at_work (history s log)
      && (is_step x.kind (is_plain (history s log)) && walks_at_work (log ++ x ∷ []) rest)

  works_here : (before : History) → is_at_work before ≡ true → IsAtWork s b t before
  works_here before fine =
      let parts = and_parts (in_block b (file s t before).pc) (not (eqb (file s t before).pc (post_commit b))) fine
      in
      record {
        in_it = parts.0;
        uncommitted = eqb-false (file s t before).pc (post_commit b)
            (not-true (eqb (file s t before).pc (post_commit b)) parts.1);
      }

  of_walk : (before : History) (e : Entry) (k : Kind) → e.kind ≡ k → is_step k (is_plain before) ≡ true
      → IsOfWalk (here_in_history s before h) t e
  of_walk before e kind.Exec is fine =
      let here = here_in_history s before h in
      let parts = and_parts (is_none (next_fault here t))
      (not (option_map_or is_call (next_effect here t) false)) fine in
      inr (inr (record {
        executes = ap (λ k. choice_with k e) is;
        no_fault = none_is (next_fault here t) parts.0;
        no_call = λ calls. false≢true (sym (ap (λ (o : Option Effect). not (option_map_or is_call o false)) calls)
            ∙ parts.1);
      }))
  of_walk before e kind.Drain is fine = inl (ap (λ k. choice_with k e) is)
  of_walk before e k is fine = absurd (false≢true fine)

  each : (stretch log : List Entry) → walks_at_work log stretch ≡ true → AreOfWalk s h t (history s log) stretch
  each [] log fine = tt
  each (x ∷ rest) log fine =
      let parts = and_parts (is_at_work (history s log)) _ fine in
      let more = and_parts (is_step x.kind (is_plain (history s log))) _ parts.1 in (
        λ own. of_walk (history s log) x x.kind refl more.0,
        subst (λ (past : History). AreOfWalk s h t past rest) (history-append s log x)
            (each rest (log ++ x ∷ []) more.1),
      )

  starts_at_work : (stretch log : List Entry) → walks_at_work log stretch ≡ true → IsAtWork s b t (history s log)
  starts_at_work [] log fine = works_here (history s log) fine
  starts_at_work (x ∷ rest) log fine =
      works_here (history s log) (and_parts (is_at_work (history s log)) _ fine).0

  works : (stretch log : List Entry) → walks_at_work log stretch ≡ true → (first more : List Entry)
      → stretch ≡ first ++ more → IsAtWork s b t (history s (log ++ first))
  works stretch log fine [] more is =
      subst (λ (l : List Entry). IsAtWork s b t (history s l)) (sym (append-nil log)) (starts_at_work stretch log fine)
  works [] log fine (y ∷ first) more is = absurd cc
  works (x ∷ rest) log fine (y ∷ first) more is =
      let same : x ≡ y = cc in
      let behind : rest ≡ first ++ more = cc in
      let parts = and_parts (is_at_work (history s log)) _ fine in
      let later = and_parts (is_step x.kind (is_plain (history s log))) _ parts.1 in
      subst (λ (l : List Entry). IsAtWork s b t (history s l))
      (append_assoc log (x ∷ []) first ∙ ap (λ (z : Entry). log ++ z ∷ first) same)
      (works rest (log ++ x ∷ []) later.1 first more behind)

  pub walk_found : (stretch log : List Entry) → running s h (history s log) ≡ Some t
      → walks_at_work log stretch ≡ true → IsWalkAtWork s b h t log stretch
  walk_found stretch log runs fine = record {
    walk = record { starts = runs; each = each stretch log fine };
    works = works stretch log fine;
  }
