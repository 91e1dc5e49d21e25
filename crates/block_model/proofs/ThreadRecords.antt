-- What the kernel's record holds for threads: ids for those that run, and areas and signals for live ones alone. It stays so after
-- each step.
use Rattle.block_model.proofs.Common.{ℕ, ◌+◌, ◌<◌, ◌≤◌, ◌≡◌, ◌≢◌, ◌||◌, ◌⊎◌, Bool, true, false, not, cond, eqb, List, [], ◌∷◌, ◌++◌, length, map, filter, find, Option, Some, None, is_some, refl, sym, ap, ◌∙◌, inl, inr, arith, AreIdsApart, AreOfLive, AreSignalsOfLive, Area, IsHeld, IsThreads, KeepsRows, Kernel, Ready, Setting, Signalling, Thread, ThreadSignals, ThreadState, Threads, Waiting, area_of, cases_lt, eqb-true, eqb_tells, false≢true, first_kernel, gone, had_child, is_area_of, is_live, is_running_state, left, length-map, list_any, map_filters, map_push, mask_of, new_thread, next_is_new, next_number, numbers, numbers-with_rows, on, option_map, or_cases, or_right, registered, requeued, rows_changed, same_numbers, signalled, state_of, state_of-with_child_other, state_of-with_child_same, state_of-with_rows, state_of-with_state_other, state_of-with_state_same, state_of-without_other, state_of-without_same, thread_of, times, times_cons, times_push, unregistered, waited, waits, with_child, with_state, without, without_area, woken}
use Rattle.mach_types.specs.Kernel.Areas.{with_area}
use Rattle.mach_types.specs.Kernel.Signals as signals
use Rattle.block_model.specs.Kernel.{ran}
use Rattle.mach_types.specs.Kernel.Threads.{with_woken}
use Rattle.block_model.proofs.KernelTables.{once, any_of}
use Rattle.block_model.proofs.SignalTables.{KeepsThreads}
use Rattle.block_model.proofs.Ids.{filtered_less, ids_ran, ids_same, ids_start, ids_stopped, is_run, its_run, fits, numbered}
use Rattle.block_model.proofs.KernelCalls.{any_from_times}

-- a thread is live where it has a state
abbrev pub has_state : ℕ → Threads → Bool
has_state t ts = is_some (state_of t ts)

its_state : (o : Option Thread) → is_some (option_map (λ th. th.state) o) ≡ is_some o
its_state None = refl
its_state (Some th) = refl

pub lives : (t : ℕ) (ts : Threads) → has_state t ts ≡ is_live t ts
lives t ts = its_state (thread_of t ts)

-- threads after which each live one is live still
abbrev LiveOn : Threads → Threads → Type 0
LiveOn ts us = (t : ℕ) → has_state t ts ≡ true → has_state t us ≡ true

-- the threads that have areas
abbrev owners : List (ℕ × Area) → List ℕ
owners areas = map (λ pair. pair.0) areas

pub held_start : (harts : ℕ) → (s : Setting) → IsHeld harts (first_kernel s)
held_start harts s = record { ids = λ small. ids_start; areas = record { live = λ t is. absurd (false≢true is); one = λ t. omega arith }; signals = refl }

-- STATES

changed_run : (o : Option ThreadState) (st : ThreadState) → is_running_state st ≡ false → its_run (option_map (λ old. st) o) ≡ false
changed_run None st is = refl
changed_run (Some old) st is = is

changed_some : (o : Option ThreadState) (st : ThreadState) → is_some (option_map (λ old. st) o) ≡ is_some o
changed_some None st = refl
changed_some (Some old) st = refl

run_stays : (t u : ℕ) (st : ThreadState) (ts : Threads) → u ≢ t → is_run u (with_state t st ts) ≡ is_run u ts
run_stays t u st ts other = ap its_run (state_of-with_state_other t u other st ts)

run_stops : (t : ℕ) (st : ThreadState) (ts : Threads) → is_running_state st ≡ false → is_run t (with_state t st ts) ≡ false
run_stops t st ts is = ap its_run (state_of-with_state_same t st ts) ∙ changed_run (state_of t ts) st is

state_stays : (t u : ℕ) (st : ThreadState) (ts : Threads) → has_state u (with_state t st ts) ≡ has_state u ts
state_stays t u st ts = elim (eqb_tells u t) [
  | inl p ↦
      ap (λ n. has_state n (with_state t st ts)) p.1
      ∙ ap (λ (o : Option ThreadState). is_some o) (state_of-with_state_same t st ts)
      ∙ changed_some (state_of t ts) st
      ∙ sym (ap (λ n. has_state n ts) p.1)
  | inr q ↦ ap (λ (o : Option ThreadState). is_some o) (state_of-with_state_other t u q.1 st ts)
]

-- the areas stay, and each live thread does
areas_stay : (ts us : Threads) (areas : List (ℕ × Area)) → LiveOn ts us → AreOfLive ts areas → AreOfLive us areas
areas_stay ts us areas on is = record {
  live = λ t has. sym (lives t us) ∙ on t (lives t ts ∙ is.live t has);
  one = is.one;
}

state_follows : (t : ℕ) (st : ThreadState) (ts : Threads) → LiveOn ts (with_state t st ts)
state_follows t st ts u live = state_stays t u st ts ∙ live

-- the live threads keep their numbers, and so their signals
pub signals_stay : (t : ℕ) (st : ThreadState) (ts : Threads) (g : Signalling) → AreSignalsOfLive ts g → AreSignalsOfLive (with_state t st ts) g
signals_stay t st ts g is = is ∙ sym (same_numbers t st ts.live)

pub live_changed : (t u : ℕ) (st : ThreadState) (ts : Threads) → is_live u (with_state t st ts) ≡ is_live u ts
live_changed t u st ts = sym (lives u (with_state t st ts)) ∙ state_stays t u st ts ∙ lives u ts

pub areas_changed : (t : ℕ) (st : ThreadState) (ts : Threads) (areas : List (ℕ × Area)) → AreOfLive ts areas → AreOfLive (with_state t st ts) areas
areas_changed t st ts areas is = areas_stay ts (with_state t st ts) areas (state_follows t st ts) is

-- STEPS OF THREADS

-- a step that changes neither threads nor signals nor areas nor ids
pub held_beside : (harts : ℕ) (k after : Kernel) → after.threads ≡ k.threads → after.ids ≡ k.ids → after.areas ≡ k.areas → after.signals ≡ k.signals
    → IsHeld harts k → IsHeld harts after
held_beside harts k after threads ids areas signals is = record {
  ids = λ small. rw (threads, ids) (is.ids small);
  areas = rw (threads, areas) is.areas;
  signals = rw (threads, signals) is.signals;
}

-- a thread leaves its hart
pub held_left : (harts : ℕ) → (t : ℕ) (k : Kernel) → IsHeld harts k → IsHeld harts (left t k)
held_left harts t k is = record {
  ids = λ small. ids_stopped t k.threads (left t k).threads k.ids (λ u other. run_stays t u Ready k.threads other) (run_stops t Ready k.threads refl) (is.ids small);
  areas = areas_changed t Ready k.threads k.areas is.areas;
  signals = signals_stay t Ready k.threads k.signals is.signals;
}

pub held_waited : (harts : ℕ) → (t at : ℕ) (k : Kernel) → IsHeld harts k → IsHeld harts (waited t at k)
held_waited harts t at k is = record {
  ids = λ small. ids_stopped t k.threads (waited t at k).threads k.ids (λ u other. run_stays t u (Waiting at) k.threads other) (run_stops t (Waiting at) k.threads refl) (is.ids small);
  areas = areas_stay k.threads (waited t at k).threads k.areas (state_follows t (Waiting at) k.threads) is.areas;
  signals = signals_stay t (Waiting at) k.threads k.signals is.signals;
}

-- a waiting thread is ready
woken_runs : (t u : ℕ) (ts : Threads) → waits ts t → is_run u (with_state t Ready ts) ≡ is_run u ts
woken_runs t u ts waiting = elim (eqb_tells u t) [
  | inl p ↦
      ap (λ n. is_run n (with_state t Ready ts)) p.1 ∙ run_stops t Ready ts refl ∙ sym (ap its_run waiting.1) ∙ sym (ap (λ n. is_run n ts) p.1)
  | inr q ↦ run_stays t u Ready ts q.1
]

pub held_woken : (harts : ℕ) → (t : ℕ) (k : Kernel) → waits k.threads t → IsHeld harts k → IsHeld harts (woken t k)
held_woken harts t k waiting is = record {
  ids = λ small. ids_same k.threads (woken t k).threads k.ids (λ u. woken_runs t u k.threads waiting) (is.ids small);
  areas = areas_stay k.threads (woken t k).threads k.areas (state_follows t Ready k.threads) is.areas;
  signals = signals_stay t Ready k.threads k.signals is.signals;
}

-- one that waits does so at another address
pub held_requeued : (harts : ℕ) → (t at : ℕ) (k : Kernel) → waits k.threads t → IsHeld harts k → IsHeld harts (requeued t at k)
held_requeued harts t at k waiting is = record {
  ids = λ small. ids_same k.threads (requeued t at k).threads k.ids requeued_runs (is.ids small);
  areas = areas_stay k.threads (requeued t at k).threads k.areas
      (λ u live. state_follows t (Waiting at) (with_woken t k.threads) u (state_follows t Ready k.threads u live)) is.areas;
  signals = signals_stay t (Waiting at) (with_woken t k.threads) k.signals (signals_stay t Ready k.threads k.signals is.signals);
}
  where
    requeued_runs : (u : ℕ) → is_run u (requeued t at k).threads ≡ is_run u k.threads
    requeued_runs u = elim (eqb_tells u t) [
      | inl p ↦
          ap (λ n. is_run n (requeued t at k).threads) p.1 ∙ run_stops t (Waiting at) (with_woken t k.threads) refl ∙ sym (ap its_run waiting.1)
          ∙ sym (ap (λ n. is_run n k.threads) p.1)
      | inr q ↦ run_stays t u (Waiting at) (with_woken t k.threads) q.1 ∙ run_stays t u Ready k.threads q.1
    ]

-- a change of rows that keeps numbers and states
pub held_rows : (harts : ℕ) (f : Thread → Thread) → KeepsRows f → (k : Kernel) → IsHeld harts k → IsHeld harts (rows_changed f k)
held_rows harts f keeps k is = record {
  ids = λ small. ids_same k.threads (rows_changed f k).threads k.ids (λ u. ap its_run (state_of-with_rows f keeps u k.threads)) (is.ids small);
  areas = areas_stay k.threads (rows_changed f k).threads k.areas
      (λ u live. ap (λ (o : Option ThreadState). is_some o) (state_of-with_rows f keeps u k.threads) ∙ live) is.areas;
  signals = is.signals ∙ sym (numbers-with_rows f keeps k.threads.live);
}

-- a child, which doesn't run
module _ (ts : Threads) (threads : IsThreads ts) where
  none_new : state_of (ts.given + 1) ts ≡ None
  none_new = ap (λ (o : Option Thread). option_map (λ th. th.state) o) (next_is_new ts threads)

  child_runs : (u : ℕ) → is_run u (with_child ts) ≡ is_run u ts
  child_runs u = elim (eqb_tells u (ts.given + 1)) [
    | inl p ↦
        ap (λ n. is_run n (with_child ts)) p.1 ∙ ap its_run (state_of-with_child_same ts threads) ∙ sym (ap its_run none_new)
        ∙ sym (ap (λ n. is_run n ts) p.1)
    | inr q ↦ ap its_run (state_of-with_child_other u ts q.1)
  ]

  child_state : (u : ℕ) → has_state u ts ≡ true → has_state u (with_child ts) ≡ true
  child_state u live = elim (eqb_tells u (ts.given + 1)) [
    | inl p ↦
        ap (λ n. has_state n (with_child ts)) p.1 ∙ ap (λ (o : Option ThreadState). is_some o) (state_of-with_child_same ts threads)
    | inr q ↦ ap (λ (o : Option ThreadState). is_some o) (state_of-with_child_other u ts q.1) ∙ live
  ]

pub held_child : (harts : ℕ) → (t : ℕ) (k : Kernel) → IsThreads k.threads → IsHeld harts k → IsHeld harts (had_child t k)
held_child harts t k threads is = record {
  ids = λ small. ids_same k.threads (had_child t k).threads k.ids (child_runs k.threads threads) (is.ids small);
  areas = areas_stay k.threads (had_child t k).threads k.areas (child_state k.threads threads) is.areas;
  signals = child_signals;
}
  where
    child_signals : AreSignalsOfLive (had_child t k).threads (had_child t k).signals
    child_signals =
        let next = next_number k in
        map_push (λ (th : ThreadSignals). th.tid) k.signals.threads (signals.new_thread next (mask_of t k.signals))
        ∙ ap (λ (ts : List ℕ). ts ++ next ∷ []) is.signals
        ∙ sym (map_push (λ (th : Thread). th.tid) k.threads.live (new_thread next))

-- a ready thread begins to run
pub held_ran : (harts : ℕ) → (t h : ℕ) (k : Kernel) → state_of t k.threads ≡ Some Ready → (harts ≤ 8 → AreIdsApart k.threads k.ids → length k.ids < 8) → IsHeld harts k → IsHeld harts (ran t h k)
held_ran harts t h k ready few is =
    let now = state_of-with_state_same t (on h) k.threads ∙ ap (λ (o : Option ThreadState). option_map (λ old. on h) o) ready in
    record {
      ids = λ small. ids_ran t k.threads (ran t h k).threads k.ids (λ u other. run_stays t u (on h) k.threads other) (ap its_run ready) (ap its_run now) (few small (is.ids small)) (is.ids small);
      areas = areas_changed t (on h) k.threads k.areas is.areas;
      signals = signals_stay t (on h) k.threads k.signals is.signals;
    }

-- STEPS OF SIGNALS

pub held_signalled : (harts : ℕ) → (g : Signalling) (k : Kernel) → KeepsThreads k.signals g → IsHeld harts k → IsHeld harts (signalled g k)
held_signalled harts g k keeps is = record { ids = is.ids; areas = is.areas; signals = keeps ∙ is.signals }

-- STEPS OF AREAS

module _ (p : ℕ × Area → Bool) where
  or_more : (a b c : Bool) → (b ≡ true → c ≡ true) → (a || b) ≡ true → (a || c) ≡ true
  or_more true b c more is = refl
  or_more false b c more is = more is

  filtered_step : (x : ℕ × Area) (some all : List (ℕ × Area)) (b : Bool) → (list_any p some ≡ true → list_any p all ≡ true)
      → list_any p (cond b (x ∷ some) some) ≡ true → list_any p (x ∷ all) ≡ true
  filtered_step x some all true rest is = or_more (p x) (list_any p some) (list_any p all) rest is
  filtered_step x some all false rest is = or_right (p x) (list_any p all) (rest is)

  in_filtered : (q : ℕ × Area → Bool) (areas : List (ℕ × Area)) → list_any p (filter q areas) ≡ true → list_any p areas ≡ true
  in_filtered q [] is = is
  in_filtered q (x ∷ areas) is = filtered_step x (filter q areas) areas (q x) (in_filtered q areas) is

  at_end_step : (x y : ℕ × Area) (areas : List (ℕ × Area)) → (p x ≡ true) ⊎ (list_any p (areas ++ y ∷ []) ≡ true)
      → (list_any p (areas ++ y ∷ []) ≡ true → (list_any p areas ≡ true) ⊎ (p y ≡ true)) → (list_any p (x ∷ areas) ≡ true) ⊎ (p y ≡ true)
  at_end_step x y areas (inl here) rest = inl (ap (λ b. b || list_any p areas) here)
  at_end_step x y areas (inr there) rest = elim (rest there) [ inl old ↦ inl (or_right (p x) (list_any p areas) old) | inr new ↦ inr new ]

  at_end : (areas : List (ℕ × Area)) (y : ℕ × Area) → list_any p (areas ++ y ∷ []) ≡ true → (list_any p areas ≡ true) ⊎ (p y ≡ true)
  at_end [] y is = elim (or_cases (p y) false is) [ inl new ↦ inr new | inr none ↦ absurd (false≢true none) ]
  at_end (x ∷ areas) y is = at_end_step x y areas (or_cases (p x) (list_any p (areas ++ y ∷ [])) is) (at_end areas y)

abbrev is_its : {X : Type 0} → ℕ → ℕ × X → Bool
is_its t pair = eqb pair.0 t

none_step : {X : Type 0} (t : ℕ) (x : ℕ × X) (rest : List (ℕ × X)) (b : Bool) → eqb x.0 t ≡ b → list_any (is_its t) rest ≡ false
    → list_any (is_its t) (cond (not b) (x ∷ rest) rest) ≡ false
none_step t x rest true same none = none
none_step t x rest false other none = ap (λ b. b || list_any (is_its t) rest) other ∙ none

-- a thread has nothing where all that it has was left out
pub none_left : {X : Type 0} (t : ℕ) (pairs : List (ℕ × X)) → list_any (is_its t) (filter (λ pair. not (is_its t pair)) pairs) ≡ false
none_left t [] = refl
none_left t (x ∷ pairs) = none_step t x (filter (λ pair. not (is_its t pair)) pairs) (eqb x.0 t) refl (none_left t pairs)

-- how many areas a thread has
fewer_areas : (t : ℕ) (areas : List (ℕ × Area)) → ((u : ℕ) → times u (owners areas) ≤ 1) → (u : ℕ) → times u (owners (without_area t areas)) ≤ 1
fewer_areas t areas most u =
    let less = filtered_less (λ (pair : ℕ × Area). pair.0) (λ pair. not (is_area_of t pair)) areas u in
    let all = most u in
    omega (arith, less, all)

not_owned : (t : ℕ) (areas : List (ℕ × Area)) → area_of t areas ≡ None → times t (owners areas) ≡ 0
not_owned t [] none = refl
not_owned t (x ∷ areas) none = go (eqb x.0 t) refl none (not_owned t areas)
  where
    go : (b : Bool) → eqb x.0 t ≡ b → option_map (λ (pair : ℕ × Area). pair.1) (cond b (Some x) (find (is_area_of t) areas)) ≡ None
        → (area_of t areas ≡ None → times t (owners areas) ≡ 0) → times t (owners (x ∷ areas)) ≡ 0
    go true same none rest = cc
    go false other none rest =
        let no = rest none in
        let zero = ap once other in
        let split = times_cons t x.0 (owners areas) in
        omega (arith, no, zero, split)

-- a thread is gone
pub held_gone : (harts : ℕ) → (t : ℕ) (k : Kernel) → IsHeld harts k → IsHeld harts (gone t k)
held_gone harts t k is = record {
  ids = λ small. ids_stopped t k.threads (gone t k).threads k.ids (λ u other. ap its_run (state_of-without_other t u other k.threads)) (ap its_run (state_of-without_same t k.threads)) (is.ids small);
  areas = record { live = live; one = fewer_areas t k.areas is.areas.one };
  signals = fewer_signals;
}
  where
    live : (u : ℕ) → list_any (is_area_of u) (without_area t k.areas) ≡ true → is_live u (without t k.threads) ≡ true
    live u has = elim (eqb_tells u t) [
      | inl p ↦ absurd (false≢true (sym (ap (λ n. list_any (is_area_of n) (without_area t k.areas)) p.1 ∙ none_left t k.areas) ∙ has))
      | inr q ↦
          sym (lives u (without t k.threads))
          ∙ ap (λ (o : Option ThreadState). is_some o) (state_of-without_other t u q.1 k.threads)
          ∙ lives u k.threads
          ∙ is.areas.live u (in_filtered (is_area_of u) (λ pair. not (is_area_of t pair)) k.areas has)
    ]

    fewer_signals : AreSignalsOfLive (gone t k).threads (gone t k).signals
    fewer_signals =
        map_filters (λ (th : ThreadSignals). th.tid) (λ u. not (eqb u t)) k.signals.threads
        ∙ ap (λ (ts : List ℕ). filter (λ u. not (eqb u t)) ts) is.signals
        ∙ sym (map_filters (λ (th : Thread). th.tid) (λ u. not (eqb u t)) k.threads.live)

-- a live thread that has no area gets one; and a thread has none any more
pub registered_areas : (t : ℕ) (area : Area) (ts : Threads) (areas : List (ℕ × Area)) → is_live t ts ≡ true → area_of t areas ≡ None
    → AreOfLive ts areas → AreOfLive ts (with_area t area areas)
registered_areas t area ts areas alive none is = record { live = live; one = one }
  where
    live : (u : ℕ) → list_any (is_area_of u) (with_area t area areas) ≡ true → is_live u ts ≡ true
    live u has = elim (at_end (is_area_of u) areas (t, area) has) [
      | inl old ↦ is.live u old
      | inr new ↦ ap (λ n. is_live n ts) (sym (eqb-true t u new)) ∙ alive
    ]

    one : (u : ℕ) → times u (owners (with_area t area areas)) ≤ 1
    one u =
        let pushed = ap (times u) (map_push (λ (pair : ℕ × Area). pair.0) areas (t, area)) in
        let split = times_push u (owners areas) t in
        let its = times_cons u t [] in
        let most = is.one u in
        elim (eqb_tells t u) [
          | inl p ↦
              let no : times u (owners areas) ≡ 0 = ap (λ n. times n (owners areas)) (sym p.1) ∙ not_owned t areas none in
              let same = ap once p.0 in
              omega (arith, pushed, split, its, no, same)
          | inr q ↦ let other = ap once q.0 in omega (arith, pushed, split, its, most, other)
        ]

pub held_registered : (harts : ℕ) → (t : ℕ) (area : Area) (k : Kernel) → has_state t k.threads ≡ true → area_of t k.areas ≡ None → IsHeld harts k
    → IsHeld harts (registered t area k)
held_registered harts t area k alive none is =
    record { ids = is.ids; areas = registered_areas t area k.threads k.areas (sym (lives t k.threads) ∙ alive) none is.areas; signals = is.signals }

-- the threads that have areas are live ones, so they are no more than those
pub areas_fit : (ts : Threads) (areas : List (ℕ × Area)) → AreOfLive ts areas → length areas ≤ length ts.live
areas_fit ts areas are =
    let few = fits (owners areas) (numbers ts.live) are.one (λ u. within u (list_any (is_area_of u) areas) refl) in
    omega (arith, few, length-map areas (λ pair. pair.0), length-map ts.live (λ (th : Thread). th.tid))
  where
    within : (u : ℕ) (b : Bool) → list_any (is_area_of u) areas ≡ b → times u (owners areas) ≤ times u (numbers ts.live)
    within u true has =
        let most = are.one u in
        let live = ap once (are.live u has) in
        let there = numbered u ts.live in
        omega (arith, most, live, there)
    within u false none = elim (cases_lt 0 (times u (owners areas))) [
      | inl some ↦
          let most = are.one u in
          let one : times u (owners areas) ≡ 1 = omega (arith, some, most) in
          absurd (false≢true (sym none ∙ any_of u areas ∙ any_from_times u (owners areas) true one))
      | inr least ↦ omega arith
    ]

pub held_unregistered : (harts : ℕ) → (t : ℕ) (k : Kernel) → IsHeld harts k → IsHeld harts (unregistered t k)
held_unregistered harts t k is = record {
  ids = is.ids;
  areas = record {
    live = λ u has. is.areas.live u (in_filtered (is_area_of u) (λ pair. not (is_area_of t pair)) k.areas has);
    one = fewer_areas t k.areas is.areas.one;
  };
  signals = is.signals;
}
