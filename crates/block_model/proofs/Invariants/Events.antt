-- Events other than instructions are fit: what each does where it is not refused keeps what holds at each place of a run.
use Rattle.block_model.proofs.Common.{◌≡◌, ℕ, ◌≤◌, List, [], ◌++◌, drop, sym, ap, ◌∙◌, subst, arith, None, ◌∷◌, refl, Bool, true, false, cond, eqb, Option, Some, ◌≢◌, AllByRecursion, Done, Here, IsGoodHere, IsTables, Killed, MayEnter, NoRequest, NotAllowed, NotReady, Outcome, Pages, Ready, Saved, Scheduling, Store, Targets, Threads, Why, action_of, affinity_of, done_done_by, done_drain_of, done_preempt_by, done_running, eqb-true, file_interrupted, files_interrupted, handled, handler_file, has_hart, is_ready, left, ne_eqb, on, refusal_done_by, refusal_preempt_by, refusal_return, refusal_run, refusal_run_by, refusal_take, running_on, runs, signals_handled, signals_taken, state_of, unless_in_barrier, unless_waiting, waiting_here, with_register}
use Rattle.block_model.proofs.Barriers.Events.{IsFitBarriers, quiet_still, quiet_free}
use Rattle.block_model.proofs.PlaceInvariant.{IsFit}
use Rattle.block_model.proofs.Invariants.Calls.Conditions.{IsApart, apart_one, apart_none}
use Rattle.block_model.proofs.Invariants.Calls.RecordSteps.{IsKept, IsMoved, kept_moved, kept_still, moved_left, kept_signalled}
use Rattle.block_model.proofs.Pages.{IsPaged}
use Rattle.block_model.specs.Events.Signal.{only_taken}
use Rattle.block_model.specs.Kernel.{ran}
use Rattle.mach_types.specs.declared.sequences.Outcome.TheVariants as comes_to
use Rattle.block_model.proofs.AllowedHarts.{same_live}
use Rattle.block_model.proofs.KernelTables.{ready_state, running_is, tables_ran, ran_runs, ran_others}
use Rattle.block_model.proofs.ThreadRecords.{held_ran}
use Rattle.block_model.proofs.Ids.{fewer_than_harts}
use Rattle.block_model.proofs.SignalTables.{handled_keeps, taken_keeps}

module _ (here : Here) (d : Done) (good : IsGoodHere here) (no_store : d.executed ≡ [])
    (no_drain : d.drained ≡ 0) (one : d.instructions ≤ 1)
    (apart : IsApart here d.files) (barriers : IsFitBarriers here d) where
  -- where its hart is left no store waits there
  pub fit_moving : IsMoved here.setting here.hart here.kernel d.kernel
      → (running_on here.hart d.kernel.threads ≡ None → waiting_here here ≡ []) → IsFit here d
  fit_moving moved idle = record {
    executed = rw no_store tt;
    within = subst (λ (p : Pages). (k : ℕ) → AllByRecursion (MayEnter here.beside p) (here.waiting k))
        (sym moved.pages) good.within;
    few = rw no_store (let w = good.few in omega arith);
    drained = rw no_drain (omega arith);
    idle = λ gone.
        ap (λ n. drop n (waiting_here here ++ d.executed)) no_drain
        ∙ ap (λ (ws : List Store). waiting_here here ++ ws) no_store
        ∙ ap (λ (ws : List Store). ws ++ []) (idle gone);
    others = moved.others;
    apart = apart;
    paged = λ is. subst (IsPaged here.setting) (sym moved.pages) is;
    given = let same = moved.given in omega arith;
    one = one;
    barriers = barriers;
    kernel = moved.sound;
    held = moved.held;
  }

  -- each hart runs the thread that it ran
  pub fit_keeping : IsKept here.setting here.kernel d.kernel → IsFit here d
  fit_keeping kept =
      fit_moving (kept_moved here.setting here.hart here.kernel d.kernel kept)
      (λ gone. good.idle here.hart (sym (kept.running here.hart) ∙ gone))

-- a thread that waits in a barrier goes on to wait where no store comes and no thread moves
waits_on : (here : Here) (d : Done) → IsGoodHere here → d.barrier ≡ None → d.returned ≡ false
    → running_on here.hart d.kernel.threads ≡ runs here → d.drained ≡ 0 → d.executed ≡ [] → IsFitBarriers here d
waits_on here d good quiet stays same no_drain no_store = record {
  still = λ left is. record {
    running = λ gone. good.busy left is (sym same ∙ gone);
    empty =
        ap (λ n. drop n (waiting_here here ++ d.executed)) no_drain ∙ ap (λ ws. waiting_here here ++ ws) no_store
        ∙ ap (λ (ws : List Store). ws ++ []) (good.empty left is);
  };
  begun = λ b is. let bad : None ≡ Some b = sym quiet ∙ is in absurd cc;
  took = λ is. stays;
  returned = λ is. let bad : false ≡ true = sym stays ∙ is in absurd cc;
}

-- so such an event is fit, which begins no barrier and returns from none
pub fit_staying : (here : Here) (d : Done) → IsGoodHere here → d.executed ≡ [] → d.drained ≡ 0 → d.instructions ≤ 1
    → d.barrier ≡ None → d.returned ≡ false → IsApart here d.files → IsKept here.setting here.kernel d.kernel → IsFit here d
fit_staying here d good no_store no_drain one quiet stays apart kept =
    fit_keeping here d good no_store no_drain one apart
    (waits_on here d good quiet stays (kept.running here.hart) no_drain no_store) kept

-- one that leaves the record as it is
pub fit_still : (here : Here) (d : Done) → IsGoodHere here → d.executed ≡ [] → d.drained ≡ 0 → d.instructions ≤ 1
    → d.barrier ≡ None → d.returned ≡ false → IsApart here d.files → d.kernel ≡ here.kernel → IsFit here d
fit_still here d good no_store no_drain one quiet stays apart same =
    fit_staying here d good no_store no_drain one quiet stays apart
    (subst (IsKept here.setting here.kernel) (sym same) (kept_still here.setting here.kernel good.kernel))

-- the oldest store of the hart enters memory
pub fit_drained : (here : Here) (w : Store) (ws : List Store) → IsGoodHere here → waiting_here here ≡ w ∷ ws
    → IsFit here (done_drain_of here (w ∷ ws))
fit_drained here w ws good is = record {
  executed = tt;
  few = let w = good.few in omega arith;
  drained = rw is (omega arith);
  idle = λ none. let bad : [] ≡ w ∷ ws = sym (good.idle here.hart none) ∙ is in absurd (cc);
  others = λ k ne. refl;
  apart = λ k u f ne runs. refl;
  within = good.within;
  paged = λ is. is;
  given = omega arith;
  one = omega arith;
  barriers = quiet_still here _ refl refl refl (λ left awaits. let bad : [] ≡ w ∷ ws = sym (good.empty left awaits) ∙ is in absurd cc);
  kernel = good.kernel;
  held = λ is. is;
}

-- it waits for no hart any more
pub waits_for_none : (awaits : Option ℕ) → refusal_return awaits ≡ None → awaits ≡ Some 0
waits_for_none None free = absurd cc
waits_for_none (Some left) free = go (eqb left 0) refl free
  where
    go : (b : Bool) → eqb left 0 ≡ b → cond b None (Some Targets) ≡ None → Some left ≡ Some 0
    go true is free = ap Some (eqb-true left 0 is)
    go false is free = absurd cc

-- the barrier of the thread returns
pub fit_returned : (here : Here) (t : ℕ) → IsGoodHere here → runs here ≡ Some t → refusal_done_by here (Some t) ≡ None
    → IsFit here (done_done_by here (Some t))
fit_returned here t good at free =
    let over = waits_for_none here.awaits free in
    let none : waiting_here here ≡ [] = good.empty 0 over in
    let its = record (here.file t) { file = with_register (here.file t).file 10 0 } in
    fit_keeping here _ good refl refl (omega arith) (apart_one here t its good at) (record {
      still = λ left is. record {
        running = λ gone. let bad : None ≡ Some t = sym gone ∙ at in absurd cc;
        empty = ap (λ (ws : List Store). ws ++ []) none;
      };
      begun = λ b is. absurd cc;
      took = λ is. absurd cc;
      returned = λ is. over;
    }) (kept_still here.setting here.kernel good.kernel)

pub none_waits : (ws : List Store) → unless_waiting ws ≡ None → ws ≡ []
none_waits [] e = refl
none_waits (w ∷ ws) e = cc

-- an event of a thread comes where it waits in no barrier
pub out_of_barrier : (awaits : Option ℕ) (why : Option Why) → unless_in_barrier awaits why ≡ None → (awaits ≡ None) × (why ≡ None)
out_of_barrier None why free = (refl, free)
out_of_barrier (Some left) why free = absurd cc

-- the thread leaves its hart
pub fit_left : (here : Here) (t : ℕ) → IsGoodHere here → runs here ≡ Some t → refusal_preempt_by here (Some t) ≡ None
    → IsFit here (done_preempt_by here (Some t))
fit_left here t good at free =
    let both = out_of_barrier here.awaits (unless_waiting (waiting_here here)) free in
    let none = none_waits (waiting_here here) both.1 in
    fit_moving here _ good refl refl (omega arith) (apart_none here) (quiet_free here _ refl refl refl both.0)
    (moved_left here.setting here.hart t here.kernel good.kernel at) (λ gone. none)

unless_not : (b : Bool) (o : Option Why) (why : Why) → cond b o (Some why) ≡ None → b ≡ true
unless_not true o why e = refl
unless_not false o why e = cc

-- a thread that may begin to run is ready
pub run_ready : (here : Here) (t : ℕ) → refusal_run here t ≡ None → (runs here ≡ None) × (is_ready t here.kernel.threads ≡ true)
run_ready here t free = go (runs here) refl free
  where
    go : (o : Option ℕ) → runs here ≡ o → refusal_run_by here t o ≡ None → (runs here ≡ None) × (is_ready t here.kernel.threads ≡ true)
    go (Some u) at e = cc
    go None at e = (at, unless_not (is_ready t here.kernel.threads) (cond (has_hart (affinity_of t here.kernel.scheduling) here.hart) None (Some NotAllowed)) NotReady e)

-- a ready thread runs on no hart
pub ready_apart : (harts t k u : ℕ) (ts : Threads) (sc : Scheduling) → IsTables harts ts sc → is_ready t ts ≡ true → running_on k ts ≡ Some u → t ≢ u
ready_apart harts t k u ts sc tables ready runs same =
    let run = running_is harts k u ts sc tables runs in
    let its = ready_state (state_of t ts) ready in
    let states : Some (on k) ≡ Some Ready = sym run ∙ ap (λ n. state_of n ts) (sym same) ∙ its in
    cc

-- an interruption sets at most the file of its thread
pub apart_interrupted : (here : Here) (t : ℕ) (o : Outcome) → IsGoodHere here → is_ready t here.kernel.threads ≡ true → IsApart here (files_interrupted here t o)
apart_interrupted here t (comes_to.Aborted at) good ready k u f ne runs =
    rw (ne_eqb t u (ready_apart here.setting.limits.harts t k u here.kernel.threads here.kernel.scheduling good.kernel.tables ready runs)) refl
apart_interrupted here t outcome good ready k u f ne runs = refl

-- no barrier is waited in on an idle hart
idle_free : (here : Here) → IsGoodHere here → runs here ≡ None → here.awaits ≡ None
idle_free here good idle = go here.awaits refl
  where
    go : (o : Option ℕ) → here.awaits ≡ o → o ≡ None
    go None is = refl
    go (Some left) is = absurd (good.busy left is idle)

-- a thread begins to run
pub fit_begun : (here : Here) (t : ℕ) (o : Outcome) → IsGoodHere here → runs here ≡ None → is_ready t here.kernel.threads ≡ true → IsFit here (done_running here t o)
fit_begun here t o good idle ready =
    let tables = good.kernel.tables in
    let harts = here.setting.limits.harts in
    let ts = here.kernel.threads in
    let sc = here.kernel.scheduling in
    let after = tables_ran harts here.hart t ts sc tables ready idle good.lt in
    fit_moving here _ good refl refl (omega arith) (apart_interrupted here t o good ready) (quiet_free here _ refl refl refl (idle_free here good idle))
    (record {
      others = λ k ne. ran_others harts here.hart t ts sc tables ready idle good.lt k ne;
      pages = refl;
      given = refl;
      sound = record {
        tables = after;
        allowed = λ some u live. good.kernel.allowed some u (sym (same_live harts u ts (ran t here.hart here.kernel).threads sc (ran t here.hart here.kernel).scheduling tables after refl) ∙ live);
        console = good.kernel.console;
      };
      held = held_ran harts t here.hart here.kernel (ready_state (state_of t ts) ready)
          (λ small are. let fewer = fewer_than_harts harts here.hart t ts sc here.kernel.ids tables are idle good.lt in omega arith);
    })
    (λ none. let bad : None ≡ Some t = sym none ∙ ran_runs harts here.hart t ts sc tables ready idle good.lt in absurd (cc))

-- an interruption sets at most the file of its thread, which runs on the hart
pub apart_own_interrupted : (here : Here) (t : ℕ) (o : Outcome) → IsGoodHere here → runs here ≡ Some t → IsApart here (files_interrupted here t o)
apart_own_interrupted here t (comes_to.Aborted to) good at = apart_one here t (record (here.file t) { pc = to }) good at
apart_own_interrupted here t outcome good at = apart_none here

-- the thread's handler is entered
pub fit_handled : (here : Here) (t signal : ℕ) (o : Outcome) → IsGoodHere here → runs here ≡ Some t → IsFit here (handled here t signal o)
fit_handled here t signal o good at =
    let taken = signals_taken here t signal in
    let keeps = handled_keeps t signal taken ∙ taken_keeps t signal here.kernel.signals in
    let its : Saved = handler_file signal (action_of signal here.kernel.signals) (file_interrupted here t o) in
    fit_staying here _ good refl refl (omega arith) refl refl (apart_one here t its good at)
    (kept_signalled here.setting (signals_handled t signal taken) here.kernel good.kernel keeps)

-- or the process is killed by it
pub fit_taken : (here : Here) (t signal killer : ℕ) (o : Outcome) → IsGoodHere here → runs here ≡ Some t
    → IsFit here (record (only_taken here t signal o) { ended = Some (Killed killer) })
fit_taken here t signal killer o good at =
    fit_staying here _ good refl refl (omega arith) refl refl (apart_own_interrupted here t o good at)
    (kept_signalled here.setting (signals_taken here t signal) here.kernel good.kernel (taken_keeps t signal here.kernel.signals))

-- a hart takes requests where some are pending and no store waits
pub takes_where : (here : Here) → refusal_take here ≡ None → (eqb here.requests 0 ≡ false) × (waiting_here here ≡ [])
takes_where here free = go (eqb here.requests 0) refl free
  where
    go : (b : Bool) → eqb here.requests 0 ≡ b → cond b (Some NoRequest) (unless_waiting (waiting_here here)) ≡ None
        → (eqb here.requests 0 ≡ false) × (waiting_here here ≡ [])
    go true is free = absurd cc
    go false is free = (is, none_waits (waiting_here here) free)
