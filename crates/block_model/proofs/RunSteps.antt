-- Each event of a run, read from its history: that it was allowed and did what is done there, and what it
-- leaves as
-- it is on other harts.
use Rattle.block_model.proofs.Common.{Done, Event, Here, History, IsGoodHere, IsRunHistory, Kernel, Kind, Setting, ThreadState, choice_of, done, done_of, drains, entry_in, eqb-false, eqb_same, file, here_in_history, is_ready, is_ready_state, kernel, on, option_map_or, refusal_of, running, stores, waiting, ◌≡◌, ◌≢◌, ℕ, ◌+◌, ◌∷◌, ◌++◌, drop, refl, sym, ap, ◌∙◌, false, cond, eqb, Option, Some, None}
use Rattle.mach_types.specs.declared.events.Kind.TheVariants as kind
use Rattle.block_model.proofs.Runs.{allowed_at, fit_at, settled}
use Rattle.block_model.proofs.PlainEvents.{drop_more}
use Rattle.block_model.proofs.EventEffects.{Drains, EventDeed, deed_of}
use Rattle.block_model.proofs.PlaceInvariant.{IsFit}
use Rattle.block_model.proofs.KernelTables.{running_is, same_hart}
use Rattle.block_model.proofs.ReadyFiles.{good_at}

-- an event of a run: its condition held, it is the entry of its choice, it did what is done at its place,
-- which is
-- good, and that is fit; and what waits on its hart after it
pub record IsStep (s : Setting) (e : Event) (before : History) : Type 0 where
  pub free : refusal_of (choice_of e.entry) (here_in_history s before e.entry.hart.0) ≡ None
  pub is : e.entry ≡ entry_in (choice_of e.entry) (here_in_history s before e.entry.hart.0)
  pub did : e.done ≡ done_of (choice_of e.entry) (here_in_history s before e.entry.hart.0)
  pub fit : IsFit (here_in_history s before e.entry.hart.0) e.done
  pub good : IsGoodHere (here_in_history s before e.entry.hart.0)
  pub waits : waiting e.entry.hart.0 (e ∷ before)
      ≡ drop e.done.drained (waiting e.entry.hart.0 before ++ e.done.executed)

waits_after : (s : Setting) (e : Event) (before : History) → IsRunHistory s before
    → waiting e.entry.hart.0 (e ∷ before) ≡ drop e.done.drained
    (waiting e.entry.hart.0 before ++ e.done.executed)
waits_after s e before run =
    let h = e.entry.hart.0 in
    ap (λ b. drop (cond b (drains h before + e.done.drained) (drains h before))
    (cond b (stores h before ++ e.done.executed) (stores h before))) (eqb_same h)
    ∙ drop_more (drains h before) e.done.drained (stores h before) e.done.executed
    ((settled s before run).counted h)

pub step_of : (s : Setting) (e : Event) (before : History) → IsRunHistory s (e ∷ before) → IsStep s e before
unfolding done
step_of s e before run =
    let a = allowed_at s before e.entry.hart.0 (choice_of e.entry) e.entry run.1 in
    record {
      free = a.free;
      is = a.is;
      did = ap (λ (x : Event). x.done) run.2;
      fit = fit_at s e before run;
      good = good_at s e before 0 run;
      waits = waits_after s e before run.0;
    }

-- only a drain drains
drained_deed : (here : Here) (tid : ℕ) {k : Kind} {d : Done} → EventDeed here tid k d → k ≢ kind.Drain
    → d.drained ≡ 0
drained_deed here tid (Drains w ws is) other = absurd (other refl)
drained_deed here tid deed other = refl

pub drains_none : (s : Setting) (e : Event) (before : History) → IsStep s e before → e.entry.kind ≢ kind.Drain
    → e.done.drained ≡ 0
drains_none s e before step other =
    let here = here_in_history s before e.entry.hart.0 in
    ap (λ (d : Done). d.drained) step.did
    ∙ drained_deed here e.entry.tid.0 (deed_of here e.entry.kind e.entry) other

-- OTHER HARTS

-- an event of another hart leaves the waiting stores of hart h, the thread that runs there, and that one's
-- file
pub waits_apart : (h : ℕ) (e : Event) (before : History) → eqb e.entry.hart.0 h ≡ false
    → waiting h (e ∷ before) ≡ waiting h before
waits_apart h e before apart =
    ap (λ b. drop (cond b (drains h before + e.done.drained) (drains h before))
    (cond b (stores h before ++ e.done.executed) (stores h before))) apart

pub runs_apart : (s : Setting) (h : ℕ) (e : Event) (before : History) → IsStep s e before
    → eqb e.entry.hart.0 h ≡ false → running s h (e ∷ before) ≡ running s h before
runs_apart s h e before step apart = step.fit.others h (λ same. eqb-false e.entry.hart.0 h apart (sym same))

pub file_apart : (s : Setting) (h t : ℕ) (e : Event) (before : History) → IsStep s e before
    → eqb e.entry.hart.0 h ≡ false → running s h before ≡ Some t → file s t (e ∷ before) ≡ file s t before
file_apart s h t e before step apart at =
    step.fit.apart h t (file s t before) (λ same. eqb-false e.entry.hart.0 h apart (sym same)) at

-- ONE THREAD

-- it is on one hart, and one that runs isn't ready
module _ (s : Setting) (e : Event) (before : History) (step : IsStep s e before) (h t : ℕ)
    (at : running s h before ≡ Some t) where
  abbrev now : Kernel
  now = kernel s before

  pub one_hart : (k : ℕ) → running s k before ≡ Some t → h ≡ k
  one_hart k there =
      let tables = step.good.kernel.tables in
      let states : Some (on h) ≡ Some (on k) =
      sym (running_is s.limits.harts h t now.threads now.scheduling tables at)
      ∙ running_is s.limits.harts k t now.threads now.scheduling tables there in
      let same : on h ≡ on k = cc in
      same_hart h k same

  pub not_ready : is_ready t now.threads ≡ false
  not_ready =
      ap (λ (o : Option ThreadState). option_map_or is_ready_state o false)
      (running_is s.limits.harts h t now.threads now.scheduling step.good.kernel.tables at)
