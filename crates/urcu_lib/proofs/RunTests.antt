-- Tests of the events since a place that find from their history that a thread runs undisturbed and its loads of
-- slots pass: what Runs asks, by computation. They ask it of each load, and of each event that is none of the
-- thread's instructions.
use Rattle.std.proofs.Common.{◌≡◌, ℕ, suc, ◌+◌, List, [], ◌∷◌, ◌++◌, ◌⊎◌, inl, inr, refl, sym, ap, ◌∙◌}
use Rattle.std.proofs.Common.{Bool, true, false, ◌&&◌, ◌||◌, cond, eqb, leb}
use Rattle.std.proofs.lemmas.Bool.{and_from, and_parts, eq-eqb, eqb-true, false≢true, leb-true}
use Rattle.mach_types.specs.Events.{choice_of}
use Rattle.mach_types.specs.Registers.{register}
use Rattle.mach_types.specs.declared.registers.Regs.{Regs}
use Rattle.block_model.specs.History.{Event, History, file}
use Rattle.block_model.specs.Setting.{Setting}
use Rattle.block_model.specs.Walks.{is_exec}
use Rattle.percpu_lib.proofs.UseTests.{either, follows, implies}
use Rattle.urcu_lib.specs.Stretch.{HasReturned, IsPassing, Runs, it_rests, it_runs, none_run}
use Rattle.urcu_lib.proofs.UseTests.{exec_is, is_file, saved_is}

module _ (s : Setting) (at t : ℕ) where
  -- the event executes an instruction of the thread
  abbrev is_own : Event → Bool
  is_own e = is_exec (choice_of e.entry) && eqb e.entry.tid.0 t

  abbrev passes : Regs → Bool
  passes f = eqb (register f 10) 0 || leb (register f 5) (register f 10)

  abbrev is_back : Event → History → Bool
  is_back e before = eqb (file s t before).pc (at + 20) && eqb (file s t (e ∷ before)).pc (at + 20)

  abbrev is_calm : Event → History → Bool
  is_calm e before = is_file (file s t (e ∷ before)) (file s t before) || is_back e before

  abbrev goes_on : Event → History → Bool
  goes_on e before =
      cond (is_own e) (implies (eqb e.entry.pc (at + 40)) (passes (file s t (e ∷ before)).file)) (is_calm e before)

  abbrev pub all_go_on : List Event → History → Bool
  all_go_on [] begun = true
  all_go_on (e ∷ since) begun = all_go_on since begun && goes_on e (since ++ begun)

  abbrev pub executed_in : List Event → ℕ
  executed_in [] = 0
  executed_in (e ∷ since) = cond (is_own e) (suc (executed_in since)) (executed_in since)

  passing_is : (f : Regs) → passes f ≡ true → IsPassing f
  passing_is f is = by_way (either (eqb (register f 10) 0) (leb (register f 5) (register f 10)) is)
    where
      by_way : (eqb (register f 10) 0 ≡ true) ⊎ (leb (register f 5) (register f 10) ≡ true) → IsPassing f
      by_way (inl none) = inl (eqb-true (register f 10) 0 none)
      by_way (inr high) = inr (leb-true (register f 5) (register f 10) high)

  calm_is : (e : Event) (before : History) → is_calm e before ≡ true
      → (file s t (e ∷ before) ≡ file s t before) ⊎ HasReturned s at t e before
  calm_is e before is = by_way (either (is_file (file s t (e ∷ before)) (file s t before)) (is_back e before) is)
    where
      by_way : (is_file (file s t (e ∷ before)) (file s t before) ≡ true) ⊎ (is_back e before ≡ true)
          → (file s t (e ∷ before) ≡ file s t before) ⊎ HasReturned s at t e before
      by_way (inl same) = inl (saved_is (file s t (e ∷ before)) (file s t before) same)
      by_way (inr back) =
          let parts = and_parts (eqb (file s t before).pc (at + 20)) (eqb (file s t (e ∷ before)).pc (at + 20)) back in
          inr (record {
            was = eqb-true (file s t before).pc (at + 20) parts.0;
            stays = eqb-true (file s t (e ∷ before)).pc (at + 20) parts.1;
          })

  pub runs_so : (since : List Event) (begun : History) → all_go_on since begun ≡ true
      → Runs s at t begun (since ++ begun) (executed_in since)
  runs_so [] begun is = none_run
  runs_so (e ∷ since) begun is =
      let parts = and_parts (all_go_on since begun) (goes_on e (since ++ begun)) is in
      by_kind (runs_so since begun parts.0) (is_own e) refl parts.1
    where
      by_kind : Runs s at t begun (since ++ begun) (executed_in since) → (b : Bool) → is_own e ≡ b
          → cond b (implies (eqb e.entry.pc (at + 40)) (passes (file s t (e ∷ (since ++ begun))).file))
          (is_calm e (since ++ begun)) ≡ true
          → Runs s at t begun (e ∷ (since ++ begun)) (cond b (suc (executed_in since)) (executed_in since))
      by_kind old true own test =
          let its = and_parts (is_exec (choice_of e.entry)) (eqb e.entry.tid.0 t) own in
          it_runs e (since ++ begun) (executed_in since) (exec_is (choice_of e.entry) its.0)
          (eqb-true e.entry.tid.0 t its.1)
          (λ here first. passing_is (file s t (e ∷ (since ++ begun))).file
          (follows (eqb e.entry.pc (at + 40)) (passes (file s t (e ∷ (since ++ begun))).file) test
          (eq-eqb e.entry.pc (at + 40) here)))
          old
      by_kind old false other test =
          it_rests e (since ++ begun) (executed_in since)
          (λ executes of. false≢true
          (sym other ∙ and_from (is_exec (choice_of e.entry)) (eqb e.entry.tid.0 t) (ap is_exec executes)
          (eq-eqb e.entry.tid.0 t of)))
          (λ may. calm_is e (since ++ begun) test)
          old
