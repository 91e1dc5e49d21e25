-- Bytes in which one thread alone stores: no store to them waits on a hart that doesn't run the thread.
use Rattle.std.proofs.Common.{◌≡◌, ◌≢◌, ℕ, List, [], ◌∷◌, ◌++◌, eqb, refl, sym, ap, ◌∙◌, subst, Bool, true}
use Rattle.std.proofs.Common.{false, inl, inr, Option, Some, None}
use Rattle.std.proofs.lemmas.Bool.{eqb-true}
use Rattle.mach_types.specs.Events.{choice_with, is_kind}
use Rattle.mach_types.proofs.Laws.{kind_is, kind_is_not}
use Rattle.mach_types.specs.declared.events.Kind.TheVariants as kind
use Rattle.mach_types.specs.declared.user_memory.Store.{Store}
use Rattle.block_model.specs.Events.{done_of, refusal_of}
use Rattle.block_model.specs.Events.Run.{done_run, lives_on, refusal_run}
use Rattle.block_model.specs.Here.{Done}
use Rattle.block_model.specs.History.{Event, History, here_in_history, running, waiting}
use Rattle.block_model.specs.Run.{IsRunHistory}
use Rattle.block_model.specs.Sequences.{interruption_here}
use Rattle.block_model.specs.Setting.{Setting}
use Rattle.block_model.proofs.Laws.{IsStep, ran_before, run_ready, runs_apart, step_of, waits_apart}
use Rattle.fence_laws.specs.Kept.{AreBeside, AreStoredBy, IsStoredBy}
use Rattle.fence_laws.proofs.WordLaw.{beside_append, beside_drop, run_executes}

module _ (words : ℕ → Bool) (s : Setting) (u : ℕ) where
  none_waits : (xs : List Store) → xs ≡ [] → AreBeside words xs
  none_waits xs is = subst (AreBeside words) (sym is) tt

  -- after an event of the hart itself
  module _ (e : Event) (before : History) (run : IsRunHistory s (e ∷ before))
      (owned : IsStoredBy s words u e before)
      (was : running s e.entry.hart.0 before ≢ Some u → AreBeside words (waiting e.entry.hart.0 before))
      (now : running s e.entry.hart.0 (e ∷ before) ≢ Some u) where
    abbrev h : ℕ
    h = e.entry.hart.0

    step : IsStep s e before
    step = step_of s e before run

    stored_by : IsStoredBy s words u e before → running s h before ≢ Some u → AreBeside words e.done.executed
    stored_by (inl beside) other = beside
    stored_by (inr its) other = absurd (other its)

    begins : e.entry.kind ≡ kind.Run → AreBeside words (waiting h (e ∷ before))
    begins same =
        let here = here_in_history s before h in
        let t = e.entry.tid.0 in
        let free : refusal_run here t ≡ None = sym (ap (λ k. refusal_of (choice_with k e.entry) here) same)
        ∙ step.free in
        let did : e.done ≡ done_run here t = step.did ∙ ap (λ k. done_of (choice_with k e.entry) here) same in
        let none : e.done.executed ≡ [] = ap (λ (d : Done). d.executed) did
        ∙ run_executes here t (lives_on here t (interruption_here here t)) in
        let empty : waiting h before ≡ [] = step.good.idle h (run_ready here t free).0 in
        subst (AreBeside words) (sym step.waits)
        (beside_drop words e.done.drained (waiting h before ++ e.done.executed)
        (beside_append words (waiting h before) e.done.executed (none_waits (waiting h before) empty)
        (none_waits e.done.executed none)))

    by_kind : (r : ℕ) → running s h (e ∷ before) ≡ Some r → (b : Bool) → is_kind e.entry.kind kind.Run ≡ b
        → AreBeside words (waiting h (e ∷ before))
    by_kind r at false is =
        let there = ran_before s e before run (kind_is_not e.entry.kind e.entry.kind kind.Run refl is) r at in
        let other : running s h before ≢ Some u = λ its. now (at ∙ sym there ∙ its) in
        subst (AreBeside words) (sym step.waits)
        (beside_drop words e.done.drained (waiting h before ++ e.done.executed)
        (beside_append words (waiting h before) e.done.executed (was other) (stored_by owned other)))
    by_kind r at true is = begins (kind_is e.entry.kind kind.Run is)

    by_now : (o : Option ℕ) → running s h (e ∷ before) ≡ o → AreBeside words (waiting h (e ∷ before))
    by_now None at = none_waits (waiting h (e ∷ before)) (step.waits ∙ step.fit.idle at)
    by_now (Some r) at = by_kind r at (is_kind e.entry.kind kind.Run) refl

    own_next : AreBeside words (waiting h (e ∷ before))
    own_next = by_now (running s h (e ∷ before)) refl

  -- after any event
  pub owned_next : (e : Event) (before : History) → IsRunHistory s (e ∷ before)
      → IsStoredBy s words u e before
      → ((h : ℕ) → running s h before ≢ Some u → AreBeside words (waiting h before)) → (h : ℕ)
      → running s h (e ∷ before) ≢ Some u → AreBeside words (waiting h (e ∷ before))
  owned_next e before run owned was h other = by_hart (eqb e.entry.hart.0 h) refl
    where
      by_hart : (b : Bool) → eqb e.entry.hart.0 h ≡ b → AreBeside words (waiting h (e ∷ before))
      by_hart false apart =
          subst (AreBeside words) (sym (waits_apart h e before apart))
          (was h (λ its. other (runs_apart s h e before (step_of s e before run) apart ∙ its)))
      by_hart true own =
          let is = eqb-true e.entry.hart.0 h own in
          subst (λ k. AreBeside words (waiting k (e ∷ before))) is
          (own_next e before run owned (was e.entry.hart.0)
          (λ its. other (sym (ap (λ k. running s k (e ∷ before)) is) ∙ its)))

  pub owned_waits : (before : History) → IsRunHistory s before → AreStoredBy s words u before → (h : ℕ)
      → running s h before ≢ Some u → AreBeside words (waiting h before)
  owned_waits [] run owned h other = tt
  owned_waits (e ∷ before) run owned h other = owned_next e before run owned.1
      (owned_waits before run.0 owned.0) h other
