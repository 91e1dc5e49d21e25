-- What a policy may let a hart do, by what is seen of it at a good place, isn't refused there.
use Rattle.std.proofs.Common.{◌≡◌, ℕ, ◌%◌, ◌^◌, ◌<◌, ◌||◌, Bool, true, false, eqb, ltb, List, [], length, Option, Some, None, is_none, is_some, refl, sym, ap, ◌∙◌, subst}
use Rattle.std.specs.List.{list_any}
use Rattle.std.proofs.lemmas.Bool.{and_parts, eqb-true, false≢true}
use Rattle.std.proofs.lemmas.Map.Views.{any-filter_same}
use Rattle.mach_types.specs.Kernel.Scheduling.{Scheduling, affinity_of, has_hart}
use Rattle.mach_types.specs.Kernel.Signals.{next_for}
use Rattle.mach_types.specs.Kernel.Threads.{is_ready}
use Rattle.mach_types.specs.declared.events.Choice.{Choice}
use Rattle.mach_types.specs.declared.events.Choice.TheVariants as asked
use Rattle.mach_types.specs.declared.events.Entry.{Entry}
use Rattle.mach_types.specs.declared.user_memory.Store.{Store}
use Rattle.draw_policies.specs.Conditions.{Delivers, Drains, Executes, IsAllowed, IsInterruptible, IsSettled, Preempts, Returns, Runs, Takes}
use Rattle.drawings.specs.Scenes.{may_begin, startable}
use Rattle.block_model.specs.Deciding.{history}
use Rattle.block_model.specs.Events.{refusal_of}
use Rattle.block_model.specs.Events.Exec.{refusal_exec}
use Rattle.block_model.specs.Events.Finish.{refusal_done_by}
use Rattle.block_model.specs.Events.Preempt.{refusal_preempt_by, unless_in_barrier, unless_waiting}
use Rattle.block_model.specs.Events.Run.{refusal_run, refusal_run_by}
use Rattle.block_model.specs.Events.Signal.{refusal_delivery, refusal_signal_by}
use Rattle.block_model.specs.Here.{Here, runs, waiting_here}
use Rattle.block_model.specs.History.{here_in_history}
use Rattle.block_model.specs.Run.{IsBlockRun}
use Rattle.block_model.specs.Setting.{Seen, Setting}
use Rattle.block_model.specs.Sights.{is_deliverable_on, sight_in}
use Rattle.block_model.proofs.Laws.{IsGoodHere, drain_free, none_waits, place_good, return_free, same_here, take_free}
use Rattle.drawn_runs.specs.DrawnRuns.{by_number}
use Rattle.drawn_runs.proofs.ReadyNumbers.{listed_ready}

-- each hart of a block run is good at each place
pub good_place : (s : Setting) (log : List Entry) (h : ℕ) → IsBlockRun s log → h < s.limits.harts
    → IsGoodHere (here_in_history s (history s log) h)
good_place s log h run below =
    let v : Seen = record { setting = s; seed = 0; log = log } in
    subst IsGoodHere (same_here v h run) (place_good v h run below)

-- what a test tells
pub none_is : {A : Type 0} (o : Option A) → is_none o ≡ true → o ≡ None
none_is None none = refl
none_is (Some x) none = absurd (false≢true none)

none_is_not : (o : Option ℕ) → is_some o ≡ false → o ≡ None
none_is_not None none = refl
none_is_not (Some n) none = absurd (false≢true (sym none))

pub some_is : (o : Option ℕ) → is_none o ≡ false → (n : ℕ) × (o ≡ Some n)
some_is None some = absurd (false≢true (sym some))
some_is (Some n) some = (n, refl)

some_is_so : (o : Option ℕ) → is_some o ≡ true → (n : ℕ) × (o ≡ Some n)
some_is_so None some = absurd (false≢true some)
some_is_so (Some n) some = (n, refl)

-- a thread that is among those that may begin to run on a hart passes the test of that, and is ready
listed : (opened h t : ℕ) (s : Scheduling) → list_any (λ u. eqb u t) (startable opened h s) ≡ true
    → (may_begin opened h (affinity_of t s) ≡ true) × (list_any (λ u. eqb u t) s.order ≡ true)
listed opened h t s among =
    let may : ℕ → Bool = λ u. may_begin opened h (affinity_of u s) in
    let kept = any-filter_same (λ u. eqb u t) may (may t) (λ u is. ap may (eqb-true u t is)) s.order in
    and_parts (may t) (list_any (λ u. eqb u t) s.order) (sym kept ∙ among)

run_free : (here : Here) (opened t : ℕ) → runs here ≡ None
    → list_any (λ u. eqb u t) (startable opened here.hart (by_number here.kernel)) ≡ true → refusal_run here t ≡ None
run_free here opened t idle among =
    let k = here.kernel in
    let set = affinity_of t k.scheduling in
    let found = listed opened here.hart t (by_number k) among in
    let ready : is_ready t k.threads ≡ true = listed_ready k.threads t found.1 in
    let may : has_hart set here.hart ≡ true = (and_parts (has_hart set here.hart) (ltb here.hart opened || eqb (set % 2 ^ opened) 0) found.0).0 in
    ap (refusal_run_by here t) idle ∙ rw (ready, may) refl

-- a thread may leave its hart, and a signal may be delivered to it, where it waits in no barrier and no store waits
leave_free : (here : Here) (t : ℕ) → runs here ≡ Some t → here.awaits ≡ None → waiting_here here ≡ []
    → refusal_of asked.Preempt here ≡ None
leave_free here t busy apart none =
    ap (refusal_preempt_by here) busy
    ∙ ap (λ (o : Option ℕ). unless_in_barrier o (unless_waiting (waiting_here here))) apart ∙ ap unless_waiting none

delivery_free : (here : Here) (signal : Option ℕ) → is_some signal ≡ true → waiting_here here ≡ []
    → refusal_delivery here signal ≡ None
delivery_free here None some none = absurd (false≢true some)
delivery_free here (Some signal) some none = ap unless_waiting none

signal_free : (here : Here) → is_deliverable_on here (runs here) ≡ true → (t : ℕ) → runs here ≡ Some t → here.awaits ≡ None
    → waiting_here here ≡ [] → refusal_of asked.Signal here ≡ None
signal_free here some t busy apart none =
    let next = next_for t here.kernel.signals in
    ap (refusal_signal_by here) busy ∙ ap (λ (o : Option ℕ). unless_in_barrier o (refusal_delivery here next)) apart
    ∙ delivery_free here next (sym (ap (is_deliverable_on here) busy) ∙ some) none

-- so what is allowed by what is seen of a hart isn't refused
interrupted_free : (here : Here) (since : ℕ) (c : Choice) → IsInterruptible (sight_in here since 0)
    → ((t : ℕ) → runs here ≡ Some t → here.awaits ≡ None → waiting_here here ≡ [] → refusal_of c here ≡ None)
    → refusal_of c here ≡ None
interrupted_free here since c may free =
    let thread = some_is (runs here) may.runs in
    free thread.0 thread.1 (none_is_not here.awaits may.apart) (none_waits (waiting_here here) may.empty)

pub allowed_is_free : (here : Here) (opened since : ℕ) {c : Choice} → IsGoodHere here
    → IsAllowed (sight_in here since 0) (startable opened here.hart (by_number here.kernel)) c → refusal_of c here ≡ None
allowed_is_free here opened since good (Executes may) = none_is (refusal_exec here) may
allowed_is_free here opened since good (Drains may) = drain_free (waiting_here here) may
allowed_is_free here opened since good (Takes may empty) = take_free here may (none_waits (waiting_here here) empty)
allowed_is_free here opened since good (Returns may) =
    let thread = some_is (runs here) may.runs in
    ap (refusal_done_by here) thread.1 ∙ return_free here.awaits may.over
allowed_is_free here opened since good (Preempts may) = interrupted_free here since asked.Preempt may (leave_free here)
allowed_is_free here opened since good (Runs t may) = run_free here opened t.0 (none_is (runs here) may.idle) may.among
allowed_is_free here opened since good (Delivers some may) =
    interrupted_free here since asked.Signal may (signal_free here some)

-- and no store of a hart waits that is idle, or whose thread waits in a barrier
empty_has_none : (stores : List Store) → stores ≡ [] → ltb 0 (length stores) ≡ false
empty_has_none stores none = ap (λ (ws : List Store). ltb 0 (length ws)) none

pub place_settled : (here : Here) (since : ℕ) → IsGoodHere here → IsSettled (sight_in here since 0)
place_settled here since good = record {
  idle = λ is. empty_has_none (waiting_here here) (good.idle here.hart (none_is (runs here) is));
  in_barrier = λ is.
      let waits = some_is_so here.awaits is in
      empty_has_none (waiting_here here) (good.empty waits.0 waits.1);
}
