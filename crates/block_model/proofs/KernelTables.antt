-- What holds of the threads of a process and of their scheduling together, and that it holds after each change of them.
use Rattle.block_model.proofs.Common.{ℕ, ◌<◌, ◌≡◌, ◌≢◌, ◌⊎◌, Bool, true, false, not, ◌||◌, cond, eqb, List, [], ◌∷◌, ◌++◌, length, map, filter, find, Option, Some, None, Less, is_some, refl, sym, ap, ◌∙◌, subst, inl, inr, arith, AllByRecursion, Decides-eqb, IsTables, IsThreads, KeepsRows, Ready, Running, Scheduling, Thread, ThreadState, Threads, Waiting, eqb_same, eqb_tells, false≢true, is_live, is_of, is_ready, is_ready_state, is_running_state, is_thread, is_waiting_state, list_any, nat_tests, numbers, numbers-with_rows, on, option_map, option_map_or, running_on, same_numbers, start_scheduling, start_threads, state_of, state_of-with_rows, state_of-with_state_other, state_of-with_state_same, thread_of, times, times_filtered_other, times_push, waits, with_ready, with_rows, with_state, sorted_from_strictly_increasing, Hart, new_thread}
use Rattle.std.specs.List.Sorted.{IsStrictlySortedBy}
use Rattle.std.specs.Ordering.{nat_cmp}
use Rattle.mach_types.proofs.Laws.{times_one, times_one_other, times_filtered_same, IsThreads-start, IsThreads-with_state, IsThreads-with_rows}
use Rattle.mach_types.specs.Kernel.Threads.{is_running_on, is_on}
use Rattle.mach_types.specs.Kernel.Scheduling.{without_ready}

abbrev pub once : Bool → ℕ
once b = cond b 1 0

abbrev pub its_state : Option Thread → Option ThreadState
its_state o = option_map (λ th. th.state) o

abbrev pub its_ready : Option ThreadState → Bool
its_ready o = option_map_or is_ready_state o false

-- the threads that have an affinity, by their numbers
pub any_of : {X : Type 0} (t : ℕ) (pairs : List (ℕ × X)) → list_any (λ (pair : ℕ × X). eqb pair.0 t) pairs
    ≡ list_any (λ k. eqb k t) (map (λ (pair : ℕ × X). pair.0) pairs)
any_of t [] = refl
any_of t (p ∷ ps) = ap (λ b. eqb p.0 t || b) (any_of t ps)

pub any_live : (t : ℕ) (live : List Thread) → is_some (find (is_thread t) live) ≡ list_any (λ k. eqb k t) (numbers live)
any_live t [] = refl
any_live t (th ∷ live) =
    elim (eqb th.tid t) as (λ b. is_some (cond b (Some th) (find (is_thread t) live)) ≡ (b || list_any (λ k. eqb k t) (numbers live)))
    [ true ↦ refl | false ↦ any_live t live ]

pub held_from_alike : (ts : Threads) (sc : Scheduling) → map (λ pair. pair.0) sc.affinities ≡ numbers ts.live → (t : ℕ) → list_any (is_of t) sc.affinities ≡ is_live t ts
held_from_alike ts sc e t =
    any_of t sc.affinities ∙ ap (λ (ks : List ℕ). list_any (λ k. eqb k t) ks) e ∙ sym (any_live t ts.live)

-- what a test finds passes it, and is found by its number, where numbers rise; and by another test that it passes something is found
module _ {X : Type 0} where
  found_step : (p : X → Bool) (y : X) (ys : List X) (x : X) (b : Bool) → p y ≡ b → (find p ys ≡ Some x → p x ≡ true) → cond b (Some y) (find p ys) ≡ Some x → p x ≡ true
  found_step p y ys x true h rest e = let same : x ≡ y = cc in ap p same ∙ h
  found_step p y ys x false h rest e = rest e

  pub found_passes : (p : X → Bool) (xs : List X) (x : X) → find p xs ≡ Some x → p x ≡ true
  found_passes p [] x e = cc
  found_passes p (y ∷ ys) x e = found_step p y ys x (p y) refl (found_passes p ys x) e

  too_step : (p q : X → Bool) (y : X) (ys : List X) (x : X) (b c : Bool) → q y ≡ c → (find p ys ≡ Some x → find q ys ≡ None → ⊥)
      → cond b (Some y) (find p ys) ≡ Some x → q x ≡ true → cond c (Some y) (find q ys) ≡ None → ⊥
  too_step p q y ys x b true here rest e passes none = cc
  too_step p q y ys x true false here rest e passes none =
      let same : x ≡ y = cc in
      false≢true (sym here ∙ sym (ap q same) ∙ passes)
  too_step p q y ys x false false here rest e passes none = rest e none

  found_too : (p q : X → Bool) (xs : List X) (x : X) → find p xs ≡ Some x → q x ≡ true → find q xs ≡ None → ⊥
  found_too p q [] x e passes none = cc
  found_too p q (y ∷ ys) x e passes none =
      too_step p q y ys x (p y) (q y) refl (λ f n. found_too p q ys x f passes n) e passes none

above_step : (p : Thread → Bool) (n : ℕ) (y : Thread) (ys : List Thread) (x : Thread) (b : Bool) → nat_cmp n y.tid ≡ Less
    → (find p ys ≡ Some x → nat_cmp n x.tid ≡ Less) → cond b (Some y) (find p ys) ≡ Some x → nat_cmp n x.tid ≡ Less
above_step p n y ys x true first rest e =
    let same : x ≡ y = cc in
    ap (λ (th : Thread). nat_cmp n th.tid) same ∙ first
above_step p n y ys x false first rest e = rest e

found_above : (p : Thread → Bool) (n : ℕ) (live : List Thread) (x : Thread) → AllByRecursion (λ k. nat_cmp n k ≡ Less) (numbers live) → find p live ≡ Some x → nat_cmp n x.tid ≡ Less
found_above p n [] x above e = cc
found_above p n (y ∷ ys) x above e = above_step p n y ys x (p y) above.0 (found_above p n ys x above.1) e

apart : (n m : ℕ) → nat_cmp n m ≡ Less → eqb n m ≡ false
apart n m e = grind (arith, nat_tests)

numbered_step : (p : Thread → Bool) (y : Thread) (ys : List Thread) (x : Thread) (b : Bool) → (find p ys ≡ Some x → nat_cmp y.tid x.tid ≡ Less)
    → (find p ys ≡ Some x → find (is_thread x.tid) ys ≡ Some x) → cond b (Some y) (find p ys) ≡ Some x → cond (eqb y.tid x.tid) (Some y) (find (is_thread x.tid) ys) ≡ Some x
numbered_step p y ys x true above rest e =
    let same : y ≡ x = cc in
    ap (λ (th : Thread). cond (eqb th.tid x.tid) (Some th) (find (is_thread x.tid) ys)) same
    ∙ ap (λ b. cond b (Some x) (find (is_thread x.tid) ys)) (eqb_same x.tid)
numbered_step p y ys x false above rest e =
    ap (λ b. cond b (Some y) (find (is_thread x.tid) ys)) (apart y.tid x.tid (above e)) ∙ rest e

pub found_sorted : (p : Thread → Bool) (live : List Thread) (x : Thread) → IsStrictlySortedBy nat_cmp (numbers live) → find p live ≡ Some x → find (is_thread x.tid) live ≡ Some x
unfolding IsStrictlySortedBy
found_sorted p [] x rising e = cc
found_sorted p (y ∷ ys) x rising e =
    numbered_step p y ys x (p y) (λ f. found_above p y.tid ys x rising.0 f) (λ f. found_sorted p ys x rising.1 f) e

-- the thread that runs on a hart
on_state : (h : ℕ) (s : ThreadState) → is_running_on h s ≡ true → s ≡ on h
on_state h (Running k) e =
    let same : k.0 ≡ h = (Decides-eqb k.0 h).0 e in
    ap on same
on_state h other e = absurd (false≢true e)

pub same_hart : (k h : ℕ) → on k ≡ on h → k ≡ h
same_hart k h e =
    let same : ◌≡◌ {A = Hart} (record { 0 = k }) (record { 0 = h }) = cc in
    ap (λ (hart : Hart). hart.0) same

found_runs : (h t : ℕ) (ts : Threads) → IsThreads ts → (o : Option Thread) → find (is_on h) ts.live ≡ o → option_map (λ th. th.tid) o ≡ Some t → state_of t ts ≡ Some (on h)
found_runs h t ts holds None e v = cc
found_runs h t ts holds (Some th) e v =
    let number : th.tid ≡ t = cc in
    let there : thread_of th.tid ts ≡ Some th = found_sorted (is_on h) ts.live th (sorted_from_strictly_increasing (numbers ts.live) holds.rising) e in
    let its : th.state ≡ on h = on_state h th.state (found_passes (is_on h) ts.live th e) in
    sym (ap (λ n. state_of n ts) number) ∙ ap (λ (o : Option Thread). option_map (λ th. th.state) o) there ∙ ap Some its

pub running_is : (harts h t : ℕ) (ts : Threads) (sc : Scheduling) → IsTables harts ts sc → running_on h ts ≡ Some t → state_of t ts ≡ Some (on h)
running_is harts h t ts sc holds e = found_runs h t ts holds.threads (find (is_on h) ts.live) refl e

-- where a hart is idle, no thread runs there
none_step : (h t : ℕ) (ts : Threads) (o f : Option Thread) → thread_of t ts ≡ o → option_map (λ th. th.state) o ≡ Some (on h) → find (is_on h) ts.live ≡ f → option_map (λ th. th.tid) f ≡ None → ⊥
none_step h t ts (Some th) None e was g none =
    let its : th.state ≡ on h = cc in
    found_too (is_thread t) (is_on h) ts.live th e (ap (is_running_on h) its ∙ eqb_same h) g
none_step h t ts o f e was g none = cc

pub running_none : (h t : ℕ) (ts : Threads) → running_on h ts ≡ None → state_of t ts ≡ Some (on h) → ⊥
running_none h t ts none was = none_step h t ts (thread_of t ts) (find (is_on h) ts.live) refl was refl none

-- the converse: a thread that runs on a hart is the hart's
back_step : (harts h t : ℕ) (ts : Threads) (sc : Scheduling) → IsTables harts ts sc → state_of t ts ≡ Some (on h) → (o : Option ℕ) → running_on h ts ≡ o → o ≡ Some t
back_step harts h t ts sc holds was None e = absurd (running_none h t ts e was)
back_step harts h t ts sc holds was (Some u) e = ap Some (holds.one h u t (running_is harts h u ts sc holds e) was)

pub running_there : (harts h t : ℕ) (ts : Threads) (sc : Scheduling) → IsTables harts ts sc → state_of t ts ≡ Some (on h) → running_on h ts ≡ Some t
running_there harts h t ts sc holds was = back_step harts h t ts sc holds was (running_on h ts) refl

-- no thread runs on a hart that is idle
idle_step : (harts h : ℕ) (ts : Threads) (sc : Scheduling) → IsTables harts ts sc → ((t : ℕ) → state_of t ts ≡ Some (on h) → ⊥) → (o : Option ℕ) → running_on h ts ≡ o → o ≡ None
idle_step harts h ts sc holds none None e = refl
idle_step harts h ts sc holds none (Some u) e = absurd (none u (running_is harts h u ts sc holds e))

pub running_idle : (harts h : ℕ) (ts : Threads) (sc : Scheduling) → IsTables harts ts sc → ((t : ℕ) → state_of t ts ≡ Some (on h) → ⊥) → running_on h ts ≡ None
running_idle harts h ts sc holds none = idle_step harts h ts sc holds none (running_on h ts) refl

-- who waits doesn't run
pub waits_elsewhere : (harts h t u : ℕ) (ts : Threads) (sc : Scheduling) → IsTables harts ts sc → running_on h ts ≡ Some t → waits ts u → u ≢ t
waits_elsewhere harts h t u ts sc tables runs is same =
    let run : state_of t ts ≡ Some (on h) = running_is harts h t ts sc tables runs in
    let no : Some (on h) ≡ Some (Waiting is.0) = sym run ∙ ap (λ n. state_of n ts) (sym same) ∙ is.1 in
    cc

-- a hart on which the same threads run as before runs the thread that it ran
module _ (harts k : ℕ) (ts us : Threads) (sc sd : Scheduling) (before : IsTables harts ts sc) (after : IsTables harts us sd)
    (forth : (t : ℕ) → state_of t ts ≡ Some (on k) → state_of t us ≡ Some (on k)) (back : (t : ℕ) → state_of t us ≡ Some (on k) → state_of t ts ≡ Some (on k)) where
  alike_step : (o : Option ℕ) → running_on k ts ≡ o → running_on k us ≡ o
  alike_step None e = running_idle harts k us sd after (λ t was. running_none k t ts e (back t was))
  alike_step (Some t) e = running_there harts k t us sd after (forth t (running_is harts k t ts sc before e))

  pub running_alike : running_on k us ≡ running_on k ts
  running_alike = alike_step (running_on k ts) refl

-- which states there are after a change of one thread's
moved_step : (t u : ℕ) (st s : ThreadState) (ts : Threads) → u ≡ t → (o : Option ThreadState) → option_map (λ old. st) o ≡ Some s → s ≡ st
moved_step t u st s ts same None e = cc
moved_step t u st s ts same (Some old) e = cc

pub state_moved : (t u : ℕ) (st s : ThreadState) (ts : Threads) → state_of u (with_state t st ts) ≡ Some s → ((u ≡ t) × (s ≡ st)) ⊎ ((u ≢ t) × (state_of u ts ≡ Some s))
state_moved t u st s ts e =
    elim (eqb_tells u t) [
      | inl p ↦
          let here : option_map (λ old. st) (state_of t ts) ≡ Some s = sym (state_of-with_state_same t st ts) ∙ sym (ap (λ n. state_of n (with_state t st ts)) p.1) ∙ e in
          inl (p.1, moved_step t u st s ts p.1 (state_of t ts) here)
      | inr q ↦ inr (q.1, sym (state_of-with_state_other t u q.1 st ts) ∙ e)
    ]

pub state_now : (t : ℕ) (st s : ThreadState) (ts : Threads) → state_of t ts ≡ Some s → state_of t (with_state t st ts) ≡ Some st
state_now t st s ts was = state_of-with_state_same t st ts ∙ ap (λ (o : Option ThreadState). option_map (λ old. st) o) was

-- how often each thread is in the ready list, where one joins it, or is taken out
module _ (t : ℕ) (order : List ℕ) (before after : ℕ → Bool) (was : (u : ℕ) → times u order ≡ once (before u)) (others : (u : ℕ) → u ≢ t → after u ≡ before u) where
  pub joined : before t ≡ false → after t ≡ true → (u : ℕ) → times u (order ++ t ∷ []) ≡ once (after u)
  joined not_there there u =
      elim (eqb_tells u t) [
        | inl p ↦
            let none : times t order ≡ 0 = was t ∙ ap once not_there in
            let here : times t (order ++ t ∷ []) ≡ 1 = omega (arith, times_push t order t, none, times_one t) in
            ap (λ n. times n (order ++ t ∷ [])) p.1 ∙ here ∙ sym (ap (λ n. once (after n)) p.1 ∙ ap once there)
        | inr q ↦
            let same : times u (order ++ t ∷ []) ≡ times u order = omega (arith, times_push u order t, times_one_other t u q.1) in
            same ∙ was u ∙ sym (ap once (others u q.1))
      ]

  pub taken : after t ≡ false → (u : ℕ) → times u (filter (λ v. not (eqb v t)) order) ≡ once (after u)
  taken gone u =
      elim (eqb_tells u t) [
        | inl p ↦ ap (λ n. times n (filter (λ v. not (eqb v t)) order)) p.1 ∙ times_filtered_same t order ∙ sym (ap (λ n. once (after n)) p.1 ∙ ap once gone)
        | inr q ↦ times_filtered_other t u q.1 order ∙ was u ∙ sym (ap once (others u q.1))
      ]

-- at the start
start_one : (t : ℕ) (s : ThreadState) → state_of t start_threads ≡ Some s → (t ≡ 1) × (s ≡ Ready)
start_one t s e =
    elim (eqb_tells 1 t) [
      | inl p ↦
          let found : state_of t start_threads ≡ Some Ready = ap (λ b. its_state (cond b (Some (new_thread 1)) None)) p.0 in
          (sym p.1, cc)
      | inr q ↦
          let none : state_of t start_threads ≡ None = ap (λ b. its_state (cond b (Some (new_thread 1)) None)) q.0 in
          let no : ⊥ = cc in
          absurd no
    ]

pub tables_start : (harts : ℕ) → IsTables harts start_threads (start_scheduling harts)
tables_start harts =
    record {
      threads = IsThreads-start;
      one = λ h t u p q. (start_one t (on h) p).0 ∙ sym (start_one u (on h) q).0;
      below = λ t k p. let no : Running k ≡ Ready = (start_one t (Running k) p).1 in cc;
      ready = λ t. elim (eqb 1 t) as (λ b. length {A = ℕ} (cond b (1 ∷ []) []) ≡ once (its_ready (its_state (cond b (Some (new_thread 1)) None))))
          [ true ↦ refl | false ↦ refl ];
      held = held_from_alike start_threads (start_scheduling harts) refl;
      alike = refl;
    }

-- where one thread runs no more, or didn't run, and the others are as they were: its hart is idle, and the others run what they ran
module _ (harts t : ℕ) (ts us : Threads) (sc sd : Scheduling) (before : IsTables harts ts sc) (after : IsTables harts us sd)
    (forth : (u : ℕ) → u ≢ t → state_of u us ≡ state_of u ts) (back : (u : ℕ) (k : Hart) → state_of u us ≡ Some (Running k) → (u ≢ t) × (state_of u ts ≡ Some (Running k))) where
  pub stopped_idle : (h : ℕ) → state_of t ts ≡ Some (on h) → running_on h us ≡ None
  stopped_idle h was =
      running_idle harts h us sd after (λ u p. let other = back u (record { 0 = h }) p in other.0 (before.one h u t other.1 was))

  pub stopped_others : (k : ℕ) → (state_of t ts ≡ Some (on k) → ⊥) → running_on k us ≡ running_on k ts
  stopped_others k isnt =
      running_alike harts k ts us sc sd before after
      (λ u p. elim (eqb_tells u t) [
        | inl s ↦ absurd (isnt (sym (ap (λ n. state_of n ts) s.1) ∙ p))
        | inr q ↦ forth u q.1 ∙ p
      ])
      (λ u p. (back u (record { 0 = k }) p).1)

-- a thread that runs on one hart doesn't run on another
pub runs_once : (h k t : ℕ) (ts : Threads) → state_of t ts ≡ Some (on h) → k ≢ h → state_of t ts ≡ Some (on k) → ⊥
runs_once h k t ts was other p =
    let states : on k ≡ on h = cc in
    other (same_hart k h states)

-- in a state in which it doesn't run, a thread doesn't run; the others run where they ran
pub not_running : (t u : ℕ) (st : ThreadState) (k : Hart) (ts : Threads) → is_running_state st ≡ false → state_of u (with_state t st ts) ≡ Some (Running k)
    → (u ≢ t) × (state_of u ts ≡ Some (Running k))
not_running t u st k ts isnt e =
    elim (state_moved t u st (Running k) ts e) [
      | inl p ↦ absurd (false≢true (sym isnt ∙ sym (ap is_running_state p.1)))
      | inr q ↦ q
    ]

-- the tables agree where one thread runs no more, or didn't run, the ready list has those that are ready, and the numbers are alike
pub tables_stopped : (harts t : ℕ) (ts us : Threads) (sc sd : Scheduling) → IsTables harts ts sc → IsThreads us
    → ((u : ℕ) (k : Hart) → state_of u us ≡ Some (Running k) → (u ≢ t) × (state_of u ts ≡ Some (Running k)))
    → ((u : ℕ) → times u sd.order ≡ once (is_ready u us)) → map (λ (pair : ℕ × ℕ). pair.0) sd.affinities ≡ numbers us.live → IsTables harts us sd
tables_stopped harts t ts us sc sd holds threads back ready alike = record {
  threads = threads;
  one = λ k u v p q. holds.one k u v (back u (record { 0 = k }) p).1 (back v (record { 0 = k }) q).1;
  below = λ u k p. holds.below u k (back u k p).1;
  ready = ready;
  held = held_from_alike us sd alike;
  alike = alike;
}

-- a thread leaves its hart, and is the last ready one
module _ (harts h t : ℕ) (ts : Threads) (sc : Scheduling) (holds : IsTables harts ts sc) (runs : running_on h ts ≡ Some t) where
  left_was : state_of t ts ≡ Some (on h)
  left_was = running_is harts h t ts sc holds runs

  left_back : (u : ℕ) (k : Hart) → state_of u (with_state t Ready ts) ≡ Some (Running k) → (u ≢ t) × (state_of u ts ≡ Some (Running k))
  left_back u k e = not_running t u Ready k ts refl e

  left_forth : (u : ℕ) → u ≢ t → state_of u (with_state t Ready ts) ≡ state_of u ts
  left_forth u other = state_of-with_state_other t u other Ready ts

  pub tables_left : IsTables harts (with_state t Ready ts) (with_ready t sc)
  tables_left =
      tables_stopped harts t ts (with_state t Ready ts) sc (with_ready t sc) holds
      (IsThreads-with_state t Ready ts holds.threads refl (ap (λ (o : Option ThreadState). option_map_or is_waiting_state o false) left_was)) left_back
      (joined t sc.order (λ u. is_ready u ts) (λ u. is_ready u (with_state t Ready ts)) holds.ready
      (λ u other. ap its_ready (left_forth u other)) (ap its_ready left_was) (ap its_ready (state_now t Ready (on h) ts left_was)))
      (holds.alike ∙ sym (same_numbers t Ready ts.live))

  pub left_idle : running_on h (with_state t Ready ts) ≡ None
  left_idle = stopped_idle harts t ts (with_state t Ready ts) sc (with_ready t sc) holds tables_left left_forth left_back h left_was

  pub left_others : (k : ℕ) → k ≢ h → running_on k (with_state t Ready ts) ≡ running_on k ts
  left_others k other =
      stopped_others harts t ts (with_state t Ready ts) sc (with_ready t sc) holds tables_left left_forth left_back k (runs_once h k t ts left_was other)

-- a ready thread runs on a hart that is idle, and is taken out of the ready list
pub ready_state : (o : Option ThreadState) → its_ready o ≡ true → o ≡ Some Ready
ready_state (Some Ready) e = refl
ready_state o e = absurd (false≢true e)

module _ (harts h t : ℕ) (ts : Threads) (sc : Scheduling) (holds : IsTables harts ts sc) (is : is_ready t ts ≡ true) (idle : running_on h ts ≡ None) (within : h < harts) where
  ran_was : state_of t ts ≡ Some Ready
  ran_was = ready_state (state_of t ts) is

  ran_now : state_of t (with_state t (on h) ts) ≡ Some (on h)
  ran_now = state_now t (on h) Ready ts ran_was

  -- who runs on a hart afterwards: this thread on its hart, and another one where it ran before
  ran_back : (u k : ℕ) → state_of u (with_state t (on h) ts) ≡ Some (on k) → ((u ≡ t) × (k ≡ h)) ⊎ ((u ≢ t) × (state_of u ts ≡ Some (on k)))
  ran_back u k e =
      elim (state_moved t u (on h) (on k) ts e) [
        | inl p ↦ inl (p.0, same_hart k h p.1)
        | inr q ↦ inr q
      ]

  not_before : (u k : ℕ) → k ≡ h → state_of u ts ≡ Some (on k) → ⊥
  not_before u k same was = running_none h u ts idle (was ∙ ap (λ n. Some (on n)) same)

  ran_one : (k u v : ℕ) → state_of u (with_state t (on h) ts) ≡ Some (on k) → state_of v (with_state t (on h) ts) ≡ Some (on k) → u ≡ v
  ran_one k u v p q =
      elim (ran_back u k p) [
        | inl a ↦ elim (ran_back v k q) [
          | inl b ↦ a.0 ∙ sym b.0
          | inr b ↦ absurd (not_before v k a.1 b.1)
        ]
        | inr a ↦ elim (ran_back v k q) [
          | inl b ↦ absurd (not_before u k b.1 a.1)
          | inr b ↦ holds.one k u v a.1 b.1
        ]
      ]

  pub tables_ran : IsTables harts (with_state t (on h) ts) (without_ready t sc)
  tables_ran =
      let alike : map (λ pair. pair.0) sc.affinities ≡ numbers (with_state t (on h) ts).live = holds.alike ∙ sym (same_numbers t (on h) ts.live) in
      record {
        threads = IsThreads-with_state t (on h) ts holds.threads refl (ap (λ (o : Option ThreadState). option_map_or is_waiting_state o false) ran_was);
        one = ran_one;
        below = λ u k p. elim (ran_back u k.0 p) [
          | inl a ↦ subst (λ n. n < harts) (sym a.1) within
          | inr b ↦ holds.below u k b.1
        ];
        ready = taken t sc.order (λ u. is_ready u ts) (λ u. is_ready u (with_state t (on h) ts)) holds.ready
            (λ u other. ap its_ready (state_of-with_state_other t u other (on h) ts)) (ap its_ready ran_now);
        held = held_from_alike (with_state t (on h) ts) (without_ready t sc) alike;
        alike = alike;
      }

  pub ran_runs : running_on h (with_state t (on h) ts) ≡ Some t
  ran_runs = running_there harts h t (with_state t (on h) ts) (without_ready t sc) tables_ran ran_now

  pub ran_others : (k : ℕ) → k ≢ h → running_on k (with_state t (on h) ts) ≡ running_on k ts
  ran_others k other =
      running_alike harts k ts (with_state t (on h) ts) sc (without_ready t sc) holds tables_ran
      (λ u p. elim (eqb_tells u t) [
        | inl s ↦
            let both : Some (on k) ≡ Some Ready = sym p ∙ ap (λ n. state_of n ts) s.1 ∙ ran_was in
            let no : ⊥ = cc in
            absurd no
        | inr q ↦ state_of-with_state_other t u q.1 (on h) ts ∙ p
      ])
      (λ u p. elim (ran_back u k p) [
        | inl a ↦ absurd (other a.1)
        | inr b ↦ b.1
      ])

-- a change of rows that keeps numbers and states
pub tables_rows : (harts : ℕ) (f : Thread → Thread) → KeepsRows f → (ts : Threads) (sc : Scheduling) → IsTables harts ts sc → IsTables harts (with_rows f ts) sc
tables_rows harts f keeps ts sc holds =
    let alike : map (λ pair. pair.0) sc.affinities ≡ numbers (with_rows f ts).live = holds.alike ∙ sym (numbers-with_rows f keeps ts.live) in
    record {
      threads = IsThreads-with_rows f keeps ts holds.threads;
      one = λ k u v p q. holds.one k u v (sym (state_of-with_rows f keeps u ts) ∙ p) (sym (state_of-with_rows f keeps v ts) ∙ q);
      below = λ u k p. holds.below u k (sym (state_of-with_rows f keeps u ts) ∙ p);
      ready = λ u. holds.ready u ∙ sym (ap (λ (o : Option ThreadState). once (its_ready o)) (state_of-with_rows f keeps u ts));
      held = held_from_alike (with_rows f ts) sc alike;
      alike = alike;
    }
