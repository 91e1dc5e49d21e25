-- What holds of the threads of a process and of their scheduling together holds after each call that changes them (clone(2), futex(2), exit(2), sched_setaffinity(2)).
use Rattle.block_model.proofs.Common.{ℕ, ◌+◌, ◌≡◌, ◌≢◌, Bool, true, false, not, ◌||◌, cond, eqb, List, [], ◌∷◌, ◌++◌, length, map, filter, Option, Some, None, is_some, refl, sym, ap, ◌∙◌, inl, inr, arith, subst, Decides-eqb, IsTables, IsThreads, Ready, Running, Scheduling, Thread, ThreadState, Threads, Waiting, affinity_of, eqb_tells, forget, is_full, is_of, is_ready, is_waiting_state, list_any, map_filters, map_push, map_stays, new_thread, next_is_new, numbers, on, option_map, option_map_or, running_on, same_numbers, set_if, state_if, state_of, state_of-with_child_other, state_of-with_child_same, state_of-with_state_other, state_of-without_other, state_of-without_same, times, waits, with_affinity, with_child, with_ready, with_state, with_waiter, without, Hart}
use Rattle.mach_types.proofs.Laws.{IsThreads-child, IsThreads-with_state, IsThreads-without, IsThreads-woken, IsThreads-waiter}
use Rattle.block_model.proofs.KernelTables.{once, its_ready, held_from_alike, joined, running_is, stopped_idle, stopped_others, runs_once, not_running, state_now, tables_stopped}
use Rattle.mach_types.specs.Kernel.Threads.{with_woken}
use Rattle.mach_types.specs.Kernel.Scheduling.{with_thread}

-- a thread is in the ready list where it is ready
pub any_from_times : (t : ℕ) (order : List ℕ) (b : Bool) → times t order ≡ once b → list_any (λ u. eqb u t) order ≡ b
any_from_times t [] true e = absurd (omega arith)
any_from_times t [] false e = refl
any_from_times t (u ∷ us) b e = any_step t u us b (eqb u t) e (any_from_times t us)
  where
    any_step : (t u : ℕ) (us : List ℕ) (b c : Bool) → length (cond c (u ∷ filter (λ v. eqb v t) us) (filter (λ v. eqb v t) us)) ≡ once b
        → ((d : Bool) → times t us ≡ once d → list_any (λ v. eqb v t) us ≡ d) → (c || list_any (λ v. eqb v t) us) ≡ b
    any_step t u us true true e rest = refl
    any_step t u us false true e rest = absurd (omega arith)
    any_step t u us b false e rest = rest b e

pub order_has : (harts t : ℕ) (ts : Threads) (sc : Scheduling) → IsTables harts ts sc → list_any (λ u. eqb u t) sc.order ≡ is_ready t ts
order_has harts t ts sc holds = any_from_times t sc.order (is_ready t ts) (holds.ready t)

-- clone(2)
module _ (harts parent : ℕ) (ts : Threads) (sc : Scheduling) (holds : IsTables harts ts sc) (free : is_full ts ≡ false) where
  child_was : state_of (ts.given + 1) ts ≡ None
  child_was = ap (λ (o : Option Thread). option_map (λ th. th.state) o) (next_is_new ts holds.threads)

  child_back : (u : ℕ) (k : Hart) → state_of u (with_child ts) ≡ Some (Running k) → (u ≢ ts.given + 1) × (state_of u ts ≡ Some (Running k))
  child_back u k e =
      elim (eqb_tells u (ts.given + 1)) [
        | inl p ↦
            let states : Some (Running k) ≡ Some Ready = sym e ∙ ap (λ n. state_of n (with_child ts)) p.1 ∙ state_of-with_child_same ts holds.threads in
            let no : ⊥ = cc in
            absurd no
        | inr q ↦ (q.1, sym (state_of-with_child_other u ts q.1) ∙ e)
      ]

  pub tables_child : IsTables harts (with_child ts) (with_ready (ts.given + 1) (with_thread parent (ts.given + 1) sc))
  tables_child =
      let pair : ℕ × ℕ = (ts.given + 1, affinity_of parent sc) in
      tables_stopped harts (ts.given + 1) ts (with_child ts) sc (with_ready (ts.given + 1) (with_thread parent (ts.given + 1) sc)) holds
      (IsThreads-child ts holds.threads free) child_back
      (joined (ts.given + 1) sc.order (λ u. is_ready u ts) (λ u. is_ready u (with_child ts)) holds.ready
      (λ u other. ap its_ready (state_of-with_child_other u ts other)) (ap its_ready child_was) (ap its_ready (state_of-with_child_same ts holds.threads)))
      (map_push (λ (pair : ℕ × ℕ). pair.0) sc.affinities pair ∙ ap (λ (ks : List ℕ). ks ++ (ts.given + 1) ∷ []) holds.alike
      ∙ sym (map_push (λ (th : Thread). th.tid) ts.live (new_thread (ts.given + 1))))

  pub child_same : (k : ℕ) → running_on k (with_child ts) ≡ running_on k ts
  child_same k =
      stopped_others harts (ts.given + 1) ts (with_child ts) sc (with_ready (ts.given + 1) (with_thread parent (ts.given + 1) sc)) holds tables_child
      (λ u other. state_of-with_child_other u ts other) child_back k (λ p. let states : Some (on k) ≡ None = sym p ∙ child_was in cc)

  -- the next number has no affinity yet
  pub child_not_held : list_any (is_of (ts.given + 1)) sc.affinities ≡ false
  child_not_held = holds.held (ts.given + 1) ∙ ap is_some (next_is_new ts holds.threads)

-- futex(2), wait: a thread leaves its hart, and waits
module _ (harts h t at : ℕ) (ts : Threads) (sc : Scheduling) (holds : IsTables harts ts sc) (runs : running_on h ts ≡ Some t) where
  waited_was : state_of t ts ≡ Some (on h)
  waited_was = running_is harts h t ts sc holds runs

  waited_back : (u : ℕ) (k : Hart) → state_of u (with_waiter t at ts) ≡ Some (Running k) → (u ≢ t) × (state_of u ts ≡ Some (Running k))
  waited_back u k e = not_running t u (Waiting at) k ts refl e

  waited_forth : (u : ℕ) → u ≢ t → state_of u (with_waiter t at ts) ≡ state_of u ts
  waited_forth u other = state_of-with_state_other t u other (Waiting at) ts

  waited_ready : (u : ℕ) → is_ready u (with_waiter t at ts) ≡ is_ready u ts
  waited_ready u =
      elim (eqb_tells u t) [
        | inl p ↦
            ap (λ n. is_ready n (with_waiter t at ts)) p.1 ∙ ap its_ready (state_now t (Waiting at) (on h) ts waited_was) ∙ sym (ap its_ready waited_was) ∙ sym (ap (λ n. is_ready n ts) p.1)
        | inr q ↦ ap its_ready (waited_forth u q.1)
      ]

  pub tables_waited : IsTables harts (with_waiter t at ts) sc
  tables_waited =
      tables_stopped harts t ts (with_waiter t at ts) sc sc holds (IsThreads-waiter t at ts (record { 0 = h }) holds.threads waited_was) waited_back
      (λ u. holds.ready u ∙ sym (ap once (waited_ready u))) (holds.alike ∙ sym (same_numbers t (Waiting at) ts.live))

  pub waited_idle : running_on h (with_waiter t at ts) ≡ None
  waited_idle = stopped_idle harts t ts (with_waiter t at ts) sc sc holds tables_waited waited_forth waited_back h waited_was

  pub waited_others : (k : ℕ) → k ≢ h → running_on k (with_waiter t at ts) ≡ running_on k ts
  waited_others k other =
      stopped_others harts t ts (with_waiter t at ts) sc sc holds tables_waited waited_forth waited_back k (runs_once h k t ts waited_was other)

-- futex(2), wake, and a wait that a signal breaks: a thread waits no longer, and is the last ready one
module _ (harts t : ℕ) (ts : Threads) (sc : Scheduling) (holds : IsTables harts ts sc) (waiting : waits ts t) where
  woken_back : (u : ℕ) (k : Hart) → state_of u (with_woken t ts) ≡ Some (Running k) → (u ≢ t) × (state_of u ts ≡ Some (Running k))
  woken_back u k e = not_running t u Ready k ts refl e

  woken_forth : (u : ℕ) → u ≢ t → state_of u (with_woken t ts) ≡ state_of u ts
  woken_forth u other = state_of-with_state_other t u other Ready ts

  pub tables_woken : IsTables harts (with_woken t ts) (with_ready t sc)
  tables_woken =
      tables_stopped harts t ts (with_woken t ts) sc (with_ready t sc) holds (IsThreads-woken t ts holds.threads) woken_back
      (joined t sc.order (λ u. is_ready u ts) (λ u. is_ready u (with_woken t ts)) holds.ready
      (λ u other. ap its_ready (woken_forth u other)) (ap its_ready waiting.1) (ap its_ready (state_now t Ready (Waiting waiting.0) ts waiting.1)))
      (holds.alike ∙ sym (same_numbers t Ready ts.live))

  pub woken_same : (k : ℕ) → running_on k (with_woken t ts) ≡ running_on k ts
  woken_same k =
      stopped_others harts t ts (with_woken t ts) sc (with_ready t sc) holds tables_woken woken_forth woken_back k
      (λ p. let states : Some (on k) ≡ Some (Waiting waiting.0) = sym p ∙ waiting.1 in cc)

-- a state after another one: the later counts
pub state_over : (t : ℕ) (a b : ThreadState) (live : List Thread) → map (state_if t a) (map (state_if t b) live) ≡ map (state_if t a) live
state_over t a b [] = refl
state_over t a b (th ∷ live) = λ i. over_one (eqb th.tid t) refl i ∷ state_over t a b live i
  where
    over_one : (c : Bool) → eqb th.tid t ≡ c → state_if t a (cond c (record th { state = b }) th) ≡ cond c (record th { state = a }) th
    over_one true is = ap (λ d. cond d (record th { state = a }) (record th { state = b })) is
    over_one false is = ap (λ d. cond d (record th { state = a }) th) is

-- futex(2), requeue: a thread that waits does so at another address, behind all that wait
module _ (harts t at : ℕ) (ts : Threads) (sc : Scheduling) (holds : IsTables harts ts sc) (waiting : waits ts t) where
  -- as if it ran in between
  threads_requeued : IsThreads (with_waiter t at (with_woken t ts))
  threads_requeued =
      let woke = with_woken t ts in
      let ready : state_of t woke ≡ Some Ready = state_now t Ready (Waiting waiting.0) ts waiting.1 in
      let ran = IsThreads-with_state t (on 0) woke (IsThreads-woken t ts holds.threads) refl (ap (λ (o : Option ThreadState). option_map_or is_waiting_state o false) ready) in
      let waits = IsThreads-waiter t at (with_state t (on 0) woke) (record { 0 = 0 }) ran (state_now t (on 0) Ready woke ready) in
      subst (λ (live : List Thread). IsThreads (record { live = live; given = ts.given; waiters = woke.waiters ++ t ∷ [] })) (state_over t (Waiting at) (on 0) woke.live) waits

  requeued_back : (u : ℕ) (k : Hart) → state_of u (with_waiter t at (with_woken t ts)) ≡ Some (Running k) → (u ≢ t) × (state_of u ts ≡ Some (Running k))
  requeued_back u k e =
      let there = not_running t u (Waiting at) k (with_woken t ts) refl e in
      (there.0, sym (state_of-with_state_other t u there.0 Ready ts) ∙ there.1)

  requeued_forth : (u : ℕ) → u ≢ t → state_of u (with_waiter t at (with_woken t ts)) ≡ state_of u ts
  requeued_forth u other = state_of-with_state_other t u other (Waiting at) (with_woken t ts) ∙ state_of-with_state_other t u other Ready ts

  pub requeued_waits : state_of t (with_waiter t at (with_woken t ts)) ≡ Some (Waiting at)
  requeued_waits = state_now t (Waiting at) Ready (with_woken t ts) (state_now t Ready (Waiting waiting.0) ts waiting.1)

  requeued_ready : (u : ℕ) → is_ready u (with_waiter t at (with_woken t ts)) ≡ is_ready u ts
  requeued_ready u =
      elim (eqb_tells u t) [
        | inl p ↦
            ap (λ n. is_ready n (with_waiter t at (with_woken t ts))) p.1 ∙ ap its_ready requeued_waits ∙ sym (ap its_ready waiting.1)
            ∙ sym (ap (λ n. is_ready n ts) p.1)
        | inr q ↦ ap its_ready (requeued_forth u q.1)
      ]

  pub tables_requeued : IsTables harts (with_waiter t at (with_woken t ts)) sc
  tables_requeued =
      tables_stopped harts t ts (with_waiter t at (with_woken t ts)) sc sc holds threads_requeued requeued_back
      (λ u. holds.ready u ∙ sym (ap once (requeued_ready u)))
      (holds.alike ∙ sym (same_numbers t (Waiting at) (with_woken t ts).live ∙ same_numbers t Ready ts.live))

  pub requeued_same : (k : ℕ) → running_on k (with_waiter t at (with_woken t ts)) ≡ running_on k ts
  requeued_same k =
      stopped_others harts t ts (with_waiter t at (with_woken t ts)) sc sc holds tables_requeued requeued_forth requeued_back k
      (λ p. let states : Some (on k) ≡ Some (Waiting waiting.0) = sym p ∙ waiting.1 in cc)

-- exit(2): a thread that runs is gone
module _ (harts h t : ℕ) (ts : Threads) (sc : Scheduling) (holds : IsTables harts ts sc) (runs : running_on h ts ≡ Some t) where
  ended_was : state_of t ts ≡ Some (on h)
  ended_was = running_is harts h t ts sc holds runs

  ended_back : (u : ℕ) (k : Hart) → state_of u (without t ts) ≡ Some (Running k) → (u ≢ t) × (state_of u ts ≡ Some (Running k))
  ended_back u k e =
      elim (eqb_tells u t) [
        | inl p ↦
            let states : Some (Running k) ≡ None = sym e ∙ ap (λ n. state_of n (without t ts)) p.1 ∙ state_of-without_same t ts in
            let no : ⊥ = cc in
            absurd no
        | inr q ↦ (q.1, sym (state_of-without_other t u q.1 ts) ∙ e)
      ]

  ended_ready : (u : ℕ) → is_ready u (without t ts) ≡ is_ready u ts
  ended_ready u =
      elim (eqb_tells u t) [
        | inl p ↦ ap (λ n. is_ready n (without t ts)) p.1 ∙ ap its_ready (state_of-without_same t ts) ∙ sym (ap its_ready ended_was) ∙ sym (ap (λ n. is_ready n ts) p.1)
        | inr q ↦ ap its_ready (state_of-without_other t u q.1 ts)
      ]

  pub tables_ended : IsTables harts (without t ts) (forget t sc)
  tables_ended =
      tables_stopped harts t ts (without t ts) sc (forget t sc) holds (IsThreads-without t ts holds.threads) ended_back
      (λ u. holds.ready u ∙ sym (ap once (ended_ready u)))
      (map_filters (λ (pair : ℕ × ℕ). pair.0) (λ k. not (eqb k t)) sc.affinities ∙ ap (λ (ks : List ℕ). filter (λ k. not (eqb k t)) ks) holds.alike
      ∙ sym (map_filters (λ (th : Thread). th.tid) (λ k. not (eqb k t)) ts.live))

  pub ended_idle : running_on h (without t ts) ≡ None
  ended_idle =
      stopped_idle harts t ts (without t ts) sc (forget t sc) holds tables_ended (λ u other. state_of-without_other t u other ts) ended_back h ended_was

  pub ended_others : (k : ℕ) → k ≢ h → running_on k (without t ts) ≡ running_on k ts
  ended_others k other =
      stopped_others harts t ts (without t ts) sc (forget t sc) holds tables_ended (λ u o. state_of-without_other t u o ts) ended_back k (runs_once h k t ts ended_was other)

-- sched_setaffinity(2)
kept_number : (t set : ℕ) (pair : ℕ × ℕ) → (set_if t set pair).0 ≡ pair.0
kept_number t set pair = go (eqb pair.0 t) refl
  where
    go : (b : Bool) → eqb pair.0 t ≡ b → (cond b (t, set) pair).0 ≡ pair.0
    go true same = sym ((Decides-eqb pair.0 t).0 same)
    go false same = refl

pub tables_allowed : (harts t set : ℕ) (ts : Threads) (sc : Scheduling) → IsTables harts ts sc → IsTables harts ts (with_affinity t set sc)
tables_allowed harts t set ts sc holds =
    let alike : map (λ pair. pair.0) (map (set_if t set) sc.affinities) ≡ numbers ts.live =
    map_stays (λ (pair : ℕ × ℕ). pair.0) (set_if t set) (kept_number t set) sc.affinities ∙ holds.alike in
    record {
      threads = holds.threads;
      one = holds.one;
      below = holds.below;
      ready = holds.ready;
      held = held_from_alike ts (with_affinity t set sc) alike;
      alike = alike;
    }
