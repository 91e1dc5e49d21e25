-- Whose an entry of a pair run is. An event that isn't a process's own, another process's or a take of an
-- idle hart, leaves it alike.
use Rattle.mach_types.specs.declared.events.Kind.TheVariants as kind
use Rattle.mach_types.specs.declared.events.Why.TheVariants.{NoStore}
use Rattle.block_model.specs.Events.Drain.{refusal_drain_of}
use Rattle.block_model.proofs.Laws.{has_thread}
use Rattle.shared_procs.proofs.Common.{◌≡◌, ◌≢◌, inl, inr, ℕ, Bool, true, false, not, cond, [], ◌∷◌, Option, Some, None, is_some, refl, sym, ap, ◌∙◌, subst, acting, apply, belongs, Choice, choice_of, choice_with, Done, done_as, done_of, done_take_by, ended_if, Entry, false≢true, filter, goes_on, half, Here, here_two, is_of_process, is_of_second, is_shared, IsPairRunHistory, Kind, kind_of, on_hart, only_took, own_choice, Pair, pair_after, PairEvent, PairHistory, PairSetting, refusal_of, running_on, runs, runs_in, stand, waiting_here, belongs_by}
use Rattle.shared_procs.proofs.Halves.{by_process, each_half}
use Rattle.shared_procs.proofs.HartsApart.{RunsOne, apart, event_of, was_idle}
use Rattle.shared_procs.proofs.InsideWrites.{AreInside}
use Rattle.shared_procs.proofs.OwnDeeds.{is_run}
use Rattle.shared_procs.proofs.OwnSteps.{closed, others_stay, own_state, takes_alone}

-- WHOSE AN ENTRY IS

itself : (p : Bool) → is_of_process p p ≡ true
itself true = refl
itself false = refl

not_none : {A : Type 0} (o : Option A) → is_some o ≡ true → o ≢ None
not_none None is same = false≢true is
not_none (Some t) is same = cc

none_of : {A : Type 0} (o : Option A) → is_some o ≡ false → o ≡ None
none_of None is = refl
none_of (Some t) is = absurd (false≢true (sym is))

-- a hart that runs a thread of a process is that process's
on_its_hart : (m : Pair) (p : Bool) (h : ℕ) → RunsOne m h → is_some (runs_in m p h) ≡ true → on_hart m h ≡ p
on_its_hart m true h one is = ap (λ b. cond b true (cond (is_some (runs_in m false h)) false (not (goes_on m false)))) is
on_its_hart m false h (inl none) is =
    ap (λ o. cond (is_some o) true (cond (is_some (runs_in m false h)) false (not (goes_on m false)))) none
    ∙ ap (λ b. cond b false (not (goes_on m false))) is
on_its_hart m false h (inr none) is = absurd (not_none (runs_in m false h) is none)

-- so an own entry is an event of its process, and but for a `run` one of a hart on which its thread runs
pub own_acts : (m : Pair) (p : Bool) (x : Entry) (k : Kind) → RunsOne m x.hart.0 → belongs_by m p x k ≡ true → acting m x.hart.0 (choice_with k x) ≡ p
own_acts m p x kind.Run one is = by_process p (is_of_second x.tid.0) is
own_acts m p x k one is = on_its_hart m p x.hart.0 one is

runs_there : (goes : Bool) (o : Option ℕ) → is_some (cond goes o None) ≡ true → o ≢ None
runs_there true o is = not_none o is
runs_there false o is = absurd (false≢true is)

pub own_runs : (m : Pair) (p : Bool) (x : Entry) (k : Kind) → belongs_by m p x k ≡ true → is_run (own_choice (choice_with k x)) ≡ false
    → running_on x.hart.0 (half p m).kernel.threads ≢ None
own_runs m p x kind.Run is other = absurd (false≢true (sym other))
own_runs m p x k is other = runs_there (goes_on m p) _ is

pub kind_is : (x : Entry) (k : Kind) → kind_of (own_choice (choice_with k x)) ≡ k
kind_is x kind.Run = refl
kind_is x k = refl

-- AN EVENT OF NONE

-- an idle hart's event is a take
taken_idle : (here : Here) (restart : Bool) (r : Option ℕ) → r ≡ None → done_take_by here restart r ≡ only_took here
taken_idle here true r none = ap (done_take_by here true) none
taken_idle here false r none = refl

only_takes : (here : Here) (x : Entry) (k : Kind) → k ≢ kind.Run → runs here ≡ None → waiting_here here ≡ []
    → refusal_of (own_choice (choice_with k x)) here ≡ None → done_of (own_choice (choice_with k x)) here ≡ only_took here
only_takes here x kind.Drain other idle empty free = let bad : Some NoStore ≡ None = sym (ap refusal_drain_of empty) ∙ free in absurd cc
only_takes here x kind.Take other idle empty free = taken_idle here here.restart (runs here) idle
only_takes here x kind.Run other idle empty free = absurd (other refl)
only_takes here x k other idle empty free =
    let its = has_thread (own_choice (choice_with k x)) here free refl in
    let bad : None ≡ Some its.0 = sym idle ∙ its.1 in
    absurd cc

not_own_run : (m : Pair) (p : Bool) (x : Entry) (k : Kind) → belongs_by m p x k ≡ false → acting m x.hart.0 (choice_with k x) ≡ p
    → (k ≢ kind.Run) × (runs_in m p x.hart.0 ≡ None)
not_own_run m p x kind.Run is acts = absurd (false≢true (sym is ∙ ap (is_of_process p) acts ∙ itself p))
not_own_run m p x k is acts = ((λ e. cc), none_of _ is)

-- A RUN

module _ (s : PairSetting) (e : PairEvent) (before : PairHistory) (run : IsPairRunHistory s (e ∷ before)) where
  abbrev m : Pair
  m = pair_after s before

  abbrev h : ℕ
  h = e.entry.hart.0

  abbrev c : Choice
  c = choice_of e.entry

  -- what an event does
  pub made : e.done ≡ done_as s m e.process h (own_choice c)
  made = subst (λ (y : PairEvent). y.done ≡ done_as s m y.process h (own_choice c)) (sym run.2) refl

  -- one of none
  of_none : belongs m e.process e.entry ≡ false
      → own_state (ended_if e.done.ended (apply h e.done (half e.process m))) ≡ own_state (half e.process m)
  of_none is =
      let p = e.process in
      let x = half p m in
      let here = here_two s m p h in
      let its = event_of s e before run in
      let apart_here = not_own_run m p e.entry e.entry.kind is (sym (ap (λ (y : PairEvent). y.process) run.2)) in
      let idle = was_idle (goes_on m p) (running_on h x.kernel.threads) its.goes apart_here.1 in
      let took = only_takes here e.entry e.entry.kind apart_here.0 idle ((apart s before run.0).none p h apart_here.1) its.free in
      let done : e.done ≡ only_took here = made ∙ ap (closed s.limits.harts x) took in
      ap (λ (d : Done). own_state (ended_if d.ended (apply h d x))) done ∙ takes_alone (stand s m p) h idle

  -- so an event that isn't its own leaves a process alike
  pub not_own : (p : Bool) → AreInside e.done.entered → belongs m p e.entry ≡ false → own_state (half p (pair_after s (e ∷ before))) ≡ own_state (half p m)
  not_own p inside =
      each_half (λ q x. belongs m q e.entry ≡ false → own_state x ≡ own_state (half q m)) h e.process e.done m of_none
      (λ is. others_stay h e.done (filter is_shared e.done.entered) (half (not e.process) m) inside) p
