-- While a thread waits in the barrier that it began it stays on its hart, which makes no event but takes of requests (membarrier(2)). And a
-- take interrupts a thread only where one of the requests asks for a restart.
use Rattle.block_model.proofs.Common.{◌≡◌, ℕ, refl, Bool, true, false, Option, Some, None, ◌≢◌, List, [], ◌∷◌, ◌++◌, sym, ap, ◌∙◌, subst, cond, Barrier, Done, Entry, Event, Here, History, IsAllowedLog, IsRunHistory, IsSome, Kind, Setting, Store, awaits, awaits_of_own, choice_with, done, done_of, done_take, done_take_by, eqb-false, eqb-true, event, false≢true, history, is_of_hart, number_of, option_map, option_or, refusal_drain_of, refusal_of, restart, running, running_on, runs, thread_in, waiting_here, without_hart}
use Rattle.mach_types.specs.declared.events.Kind.TheVariants as kind
use Rattle.block_model.specs.Barriers.{Begun, IsWaiting, begun_on, begun_or}
use Rattle.block_model.proofs.Barriers.Events.{waited_before}
use Rattle.block_model.proofs.Barriers.Return.{returns_by}
use Rattle.block_model.proofs.ErrorCalls.{run_to}
use Rattle.block_model.proofs.EventEffects.{Calls, EventDeed, deed_of}
use Rattle.block_model.proofs.EventNeeds.{waits_in_none}
use Rattle.block_model.proofs.Invariants.Events.{run_ready}
use Rattle.block_model.proofs.Runs.{fit_at, waiter_runs, waiter_stores}
use Rattle.block_model.proofs.WholeEvents.{did, is_free, its_thread, place}

module _ (here : Here) where
  -- requests are taken
  take_keeps_by : (restart : Bool) (r : Option ℕ) → (done_take_by here restart r).kernel ≡ here.kernel
  take_keeps_by false r = refl
  take_keeps_by true None = refl
  take_keeps_by true (Some t) = refl

  pub take_keeps : (done_take here).kernel ≡ here.kernel
  take_keeps = take_keeps_by here.restart (runs here)

-- THE EVENT THAT BEGINS A BARRIER

-- is a call, so it is one of the thread that runs on the hart
begins_thread : (here : Here) (x : Entry) (b : Barrier) {k : Kind} {d : Done} → EventDeed here x.tid.0 k d → d.barrier ≡ Some b
    → thread_in (choice_with k x) here ≡ runs here
begins_thread here x b (Calls t e next calls outside) is = refl
begins_thread here x b deed is = absurd cc

some_number : (r : Option ℕ) → r ≢ None → r ≡ Some (number_of r)
some_number None busy = absurd (busy refl)
some_number (Some t) busy = refl

begins_running : (s : Setting) (e : Event) (before : History) (b : Barrier) → IsRunHistory s (e ∷ before) → e.done.barrier ≡ Some b
    → running s e.entry.hart.0 (e ∷ before) ≡ Some e.entry.tid.0
begins_running s e before b run is =
    let begun = (fit_at s e before run).barriers.begun b is in
    let here = place s e before run in
    let k = e.entry.kind in
    let same = begins_thread here e.entry b (deed_of here k e.entry) (sym (ap (λ (d : Done). d.barrier) (did s e before run k refl)) ∙ is) in
    let number : e.entry.tid.0 ≡ number_of (runs here) = its_thread s e before run k refl ∙ ap number_of same in
    begun.stays ∙ some_number (runs here) (λ idle. begun.still.running (begun.stays ∙ idle)) ∙ ap Some (sym number)

-- THE EVENTS OF A HART WHOSE THREAD WAITS

module _ (here : Here) (left : ℕ) (waits : here.awaits ≡ Some left) where
  in_barrier : here.awaits ≢ None
  in_barrier free = let bad : None ≡ Some left = sym free ∙ waits in absurd cc

  not_drain : (ws : List Store) → ws ≡ [] → refusal_drain_of ws ≢ None
  not_drain [] none free = absurd cc
  not_drain (w ∷ ws) none free = absurd cc

  -- they are takes, where the barrier doesn't return
  only_takes : (k : Kind) (x : Entry) → runs here ≢ None → waiting_here here ≡ [] → refusal_of (choice_with k x) here ≡ None
      → (done_of (choice_with k x) here).returned ≡ false → k ≡ kind.Take
  only_takes kind.Drain x busy empty free stays = absurd (not_drain (waiting_here here) empty free)
  only_takes kind.Take x busy empty free stays = refl
  only_takes kind.Done x busy empty free stays = absurd (false≢true (sym stays ∙ returns_by here (runs here) free))
  only_takes kind.Run x busy empty free stays = absurd (busy (run_ready here x.tid.0 free).0)
  only_takes k x busy empty free stays = absurd (in_barrier (waits_in_none (choice_with k x) here free refl))

-- WHILE A THREAD WAITS

module _ (s : Setting) (e : Event) (before : History) (run : IsRunHistory s (e ∷ before)) (h left : ℕ) (b : Begun)
    (was : (all : ℕ) → awaits h before ≡ Some all → begun_on h before ≡ Some b → IsWaiting s before h b) where
  abbrev now : History
  now = e ∷ before

  -- a barrier begins
  waits_from : (barrier : Barrier) → e.entry.hart.0 ≡ h → e.done.barrier ≡ Some barrier
      → IsWaiting s now h (record { call = before; barrier = barrier })
  waits_from barrier own is = record {
    since = [];
    call = e;
    parts = refl;
    of_hart = own;
    began = is;
    stays = subst (λ k. running s k now ≡ Some e.entry.tid.0) own (begins_running s e before barrier run is);
    alone = tt;
  }

  -- a thread waits on
  waits_on : IsWaiting s before h b → running s h now ≡ running s h before → (is_of_hart h e ≡ true → e.entry.kind ≡ kind.Take) → IsWaiting s now h b
  waits_on old same takes = record {
    since = e ∷ old.since;
    call = old.call;
    parts = ap (λ (rest : History). e ∷ rest) old.parts;
    of_hart = old.of_hart;
    began = old.began;
    stays = same ∙ old.stays;
    alone = (old.alone, takes);
  }

  its_take : e.entry.hart.0 ≡ h → awaits h before ≡ Some left → e.done.returned ≡ false → e.entry.kind ≡ kind.Take
  its_take own waits stays =
      let here = place s e before run in
      let k = e.entry.kind in
      let awaited : awaits e.entry.hart.0 before ≡ Some left = ap (λ j. awaits j before) own ∙ waits in
      only_takes here left awaited k e.entry
      (waiter_runs s before e.entry.hart.0 left run.0 awaited) (waiter_stores s before e.entry.hart.0 left run.0 awaited)
      (is_free s e before run k refl) (sym (ap (λ (d : Done). d.returned) (did s e before run k refl)) ∙ stays)

  take_stays : e.entry.kind ≡ kind.Take → running s h now ≡ running s h before
  take_stays is =
      ap (λ (d : Done). running_on h d.kernel.threads) (did s e before run kind.Take is)
      ∙ ap (λ k. running_on h k.threads) (take_keeps (place s e before run))

  by_own : (returned : Bool) (barrier : Option Barrier) → e.entry.hart.0 ≡ h → e.done.returned ≡ returned → e.done.barrier ≡ barrier
      → cond returned None (option_or (option_map (λ (x : Barrier). x.targets) barrier) (awaits h before)) ≡ Some left
      → begun_or (begun_on h before) before barrier ≡ Some b → IsWaiting s now h b
  by_own true barrier own returns its waits is = absurd cc
  by_own false None own stays its waits is =
      let takes = its_take own waits stays in
      waits_on (was left waits is) (take_stays takes) (λ same. takes)
  by_own false (Some barrier) own stays its waits is =
      let same : record { call = before; barrier = barrier } ≡ b = cc in
      subst (λ (x : Begun). IsWaiting s now h x) same (waits_from barrier own its)

  by_hart : (own : Bool) → is_of_hart h e ≡ own
      → cond own (awaits_of_own e.done (awaits h before)) (cond e.done.took (option_map (without_hart e.entry.hart.0) (awaits h before)) (awaits h before)) ≡ Some left
      → cond own (begun_or (begun_on h before) before e.done.barrier) (begun_on h before) ≡ Some b → IsWaiting s now h b
  by_hart true own waits is = by_own e.done.returned e.done.barrier (eqb-true e.entry.hart.0 h own) refl refl waits is
  by_hart false other waits is =
      let its = waited_before e.entry.hart.0 left (awaits h before) e.done.took waits in
      let apart : h ≢ e.entry.hart.0 = λ same. eqb-false e.entry.hart.0 h other (sym same) in
      waits_on (was its.0 its.1 is) ((fit_at s e before run).others h apart) (λ own. absurd (false≢true (sym other ∙ own)))

pub waits_at : (s : Setting) (before : History) (h left : ℕ) (b : Begun) → IsRunHistory s before → awaits h before ≡ Some left
    → begun_on h before ≡ Some b → IsWaiting s before h b
waits_at s [] h left b run waits is = absurd cc
waits_at s (e ∷ before) h left b run waits is =
    by_hart s e before run h left b (λ all old newest. waits_at s before h all b run.0 old newest) (is_of_hart h e) refl waits is

-- A TAKE THAT INTERRUPTS

asks_restart : (here : Here) (restart : Bool) (r : Option ℕ) → IsSome (done_take_by here restart r).interrupted → restart ≡ true
asks_restart here false r is = absurd (false≢true is)
asks_restart here true r is = refl

pub restart_asked : (s : Setting) (earlier later : List Entry) (entry : Entry) → IsAllowedLog s (earlier ++ entry ∷ later) → entry.kind ≡ kind.Take
    → IsSome (done s (history s earlier) entry).interrupted → restart entry.hart.0 (history s earlier) ≡ true
restart_asked s earlier later entry run is interrupts =
    let before = history s earlier in
    let e = event s before entry in
    let to = run_to s earlier later entry run in
    let here = place s e before to in
    asks_restart here here.restart (runs here)
    (subst (λ (d : Done). IsSome d.interrupted) (did s e before to kind.Take is) interrupts)
