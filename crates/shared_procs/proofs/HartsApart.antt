-- A hart runs threads of one process alone; and where it runs none of a process, no store of the process waits there.
use Rattle.std.proofs.lemmas.Bool.{not-true}
use Rattle.std.specs.List.{list_any}
use Rattle.mach_types.specs.Kernel.Threads.{goes_on as thread_goes_on, is_running_on, is_waiting_state}
use Rattle.mach_types.specs.declared.events.Choice.TheVariants as asked
use Rattle.mach_types.specs.declared.limits.End.TheVariants as over
use Rattle.mach_types.specs.declared.threads.ThreadState.TheVariants.{Waiting}
use Rattle.shared_procs.proofs.Common.{◌≡◌, ◌≢◌, ◌⊎◌, inl, inr, ℕ, ◌<◌, ◌||◌, List, [], ◌∷◌, Bool, true, false, not, cond, Option, None, Some, is_none, is_some, length, find, nat_le, refl, sym, ap, ◌∙◌, subst, acting, apply, apply_two, cases_eq, Choice, choice_of, Done, done_of, End, ended_if, Entry, final, goes_on, half, here_two, is_of_second, is_on, is_stuck, is_take, IsFit, IsPairRun, IsPairRunHistory, Neighbour, neighbour, on_hart, option_map, option_or, own_choice, Pair, pair_after, pair_history, PairEvent, PairHistory, PairSetting, Plain, plain_over, refusal_of, refusal_two, running_on, runs_in, stand, stand_next, Thread, Threads, ThreadState, and_parts}
use Rattle.shared_procs.proofs.EventFacts.{does_so}
use Rattle.shared_procs.proofs.Halves.{each_half, open_of}
use Rattle.shared_procs.proofs.Refusals.{begins}
use Rattle.shared_procs.proofs.Settled.{decided, done_fit, over_lt, own_free, settled}

-- one process runs no thread on a hart
abbrev pub RunsOne : Pair → ℕ → Type 0
RunsOne m k = (runs_in m true k ≡ None) ⊎ (runs_in m false k ≡ None)

-- of a process of which a hart runs no thread no store waits there
abbrev pub HoldsNone : Pair → Bool → ℕ → Type 0
HoldsNone m p k = runs_in m p k ≡ None → (half p m).waiting k ≡ []

-- A STUCK PROCESS

-- none of its threads runs
none_found : (k : ℕ) (live : List Thread) → list_any thread_goes_on live ≡ false → find (is_on k) live ≡ None
none_found k [] is = refl
none_found k (th ∷ live) is = by th.state is (none_found k live)
  where
    by : (st : ThreadState) → (not (is_waiting_state st) || list_any thread_goes_on live) ≡ false
        → (list_any thread_goes_on live ≡ false → find (is_on k) live ≡ None) → cond (is_running_on k st) (Some th) (find (is_on k) live) ≡ None
    by (Waiting at) none rest = rest none
    by st none rest = cc

stuck_idle : (k : ℕ) (ts : Threads) → is_stuck ts ≡ true → running_on k ts ≡ None
stuck_idle k ts is =
    let none = not-true (list_any thread_goes_on ts.live) (and_parts (nat_le 1 (length ts.live)) (not (list_any thread_goes_on ts.live)) is).1 in
    ap (option_map (λ (th : Thread). th.tid)) (none_found k ts.live none)

-- so where no event ended a process, a hart on which it runs nothing is idle
idle_of : (x : Plain) (k : ℕ) → x.ended ≡ None → cond (is_none (plain_over x)) (running_on k x.kernel.threads) None ≡ None → running_on k x.kernel.threads ≡ None
idle_of x k unended is =
    by (is_stuck x.kernel.threads) refl
    (sym (ap (λ (o : Option End). cond (is_none (final o x.kernel)) (running_on k x.kernel.threads) None) unended) ∙ is)
  where
    by : (stuck : Bool) → is_stuck x.kernel.threads ≡ stuck
        → cond (is_none (option_or None (cond stuck (Some over.Stuck) None))) (running_on k x.kernel.threads) None ≡ None
        → running_on k x.kernel.threads ≡ None
    by true stuck runs = stuck_idle k x.kernel.threads stuck
    by false stuck runs = runs

-- THE HART OF AN EVENT

-- the process that acts on a hart is the one of which a thread runs there, if one does
rest_idle : (m : Pair) (h : ℕ) → RunsOne m h → runs_in m (not (on_hart m h)) h ≡ None
rest_idle m h one = by (runs_in m true h) (runs_in m false h) (goes_on m false) refl refl one
  where
    by : (o q : Option ℕ) (goes : Bool) → runs_in m true h ≡ o → runs_in m false h ≡ q → RunsOne m h
        → runs_in m (not (cond (is_some o) true (cond (is_some q) false (not goes)))) h ≡ None
    by (Some t) q goes second first (inl none) = let bad : Some t ≡ None = sym second ∙ none in absurd cc
    by (Some t) q goes second first (inr none) = none
    by None (Some u) goes second first one = second
    by None None true second first one = second
    by None None false second first one = first

-- where an event may come, no thread of the other process runs on its hart
other_idle : (s : PairSetting) (m : Pair) (h : ℕ) (c : Choice) → RunsOne m h → refusal_two s m h c ≡ None → runs_in m (not (acting m h c)) h ≡ None
other_idle s m h (asked.Run t) one free =
    (begins m (is_of_second t.0) h (refusal_of (own_choice (asked.Run t)) (here_two s m (is_of_second t.0) h)) free).0
other_idle s m h c one free = rest_idle m h one

-- an event of a pair run, by the numbers of its process
pub record IsEvent (s : PairSetting) (before : PairHistory) (e : PairEvent) : Type 0 where
  pub lt : e.entry.hart.0 < s.limits.harts
  pub goes : goes_on (pair_after s before) e.process ≡ true
  pub free : refusal_of (own_choice (choice_of e.entry)) (here_two s (pair_after s before) e.process e.entry.hart.0) ≡ None
  pub alone : RunsOne (pair_after s before) e.entry.hart.0 → runs_in (pair_after s before) (not e.process) e.entry.hart.0 ≡ None
  pub fit : IsFit (here_two s (pair_after s before) e.process e.entry.hart.0)
      (record e.done { entered = (done_of (own_choice (choice_of e.entry)) (here_two s (pair_after s before) e.process e.entry.hart.0)).entered })
  pub took_is : e.done.took ≡ is_take (own_choice (choice_of e.entry))
  pub quietly : (end : End) → e.done.ended ≡ Some end → (e.done.executed ≡ []) × (e.done.drained ≡ 0)

pub event_of : (s : PairSetting) (e : PairEvent) (before : PairHistory) → IsPairRunHistory s (e ∷ before) → IsEvent s before e
event_of s e before run =
    let m = pair_after s before in
    let h = e.entry.hart.0 in
    let c = choice_of e.entry in
    let comes = decided s m h c e.entry run.1 in
    let lt = over_lt s.limits.harts h comes.hart in
    let own = own_free s m h c comes.over comes.free in
    let does = does_so (here_two s m (acting m h c) h) (own_choice c) in
    subst (IsEvent s before) (sym run.2) (record {
      lt = lt;
      goes = own.goes;
      free = own.free;
      alone = λ one. other_idle s m h c one comes.free;
      fit = done_fit s m h c (settled s before run.0) lt comes.over comes.free;
      took_is = does.took_is;
      quietly = does.quietly;
    })

-- AN EVENT KEEPS BOTH

idle_either : (b : Bool) (o : Option ℕ) → o ≡ None → cond b o None ≡ None
idle_either true o is = is
idle_either false o is = refl

pub was_idle : (b : Bool) (o : Option ℕ) → b ≡ true → cond b o None ≡ None → o ≡ None
was_idle true o goes is = is
was_idle false o goes is = cc

-- the thread of a process that runs on a hart, where the process stands so
abbrev idle_in : Plain → ℕ → Type 0
idle_in x k = cond (is_none (plain_over x)) (running_on k x.kernel.threads) None ≡ None

module _ (s : PairSetting) (e : PairEvent) (before : PairHistory) (run : IsPairRunHistory s (e ∷ before)) where
  abbrev m : Pair
  m = pair_after s before

  abbrev p : Bool
  p = e.process

  abbrev h : ℕ
  h = e.entry.hart.0

  abbrev d : Done
  d = e.done

  its : IsEvent s before e
  its = event_of s e before run

  -- other harts run the threads of both that they ran
  stays_idle : (k : ℕ) → k ≢ h → (q : Bool) → runs_in m q k ≡ None → runs_in (apply_two h p d m) q k ≡ None
  stays_idle k other =
      each_half (λ q x. runs_in m q k ≡ None → idle_in x k) h p d m
      (λ none.
      idle_either (is_none (plain_over (apply h d (half p m)))) (running_on k d.kernel.threads)
      (its.fit.others k other ∙ was_idle (goes_on m p) (running_on k (half p m).kernel.threads) its.goes none))
      (λ none. none)

  one_here : (q : Bool) → runs_in m (not q) h ≡ None → RunsOne (apply_two h q d m) h
  one_here true none = inr none
  one_here false none = inl none

  one_next : (k : ℕ) → RunsOne m h → RunsOne m k → RunsOne (apply_two h p d m) k
  one_next k here there = elim (cases_eq k h) [
    | inl same ↦ subst (RunsOne (apply_two h p d m)) (sym same) (one_here p (its.alone here))
    | inr other ↦ elim there [ inl none ↦ inl (stays_idle k other true none) | inr none ↦ inr (stays_idle k other false none) ]
  ]

  -- a process that an event ended has no waiting store; and on a hart that is idle after any other one none waits
  own_holds : (k : ℕ) (o : Option End) → d.ended ≡ o → idle_in (ended_if o (apply h d (half p m))) k → (ended_if o (apply h d (half p m))).waiting k ≡ []
  own_holds k (Some end) is none = refl
  own_holds k None is none =
      let beside : Option Neighbour = Some (neighbour s m p) in
      let next = stand_next (stand s m p) h _ beside (λ can. refl) its.lt (settled s before run.0 p its.goes) its.fit d.entered in
      let unended : (apply h d (half p m)).ended ≡ None = ap (λ o. option_or o (half p m).ended) is ∙ open_of (half p m) its.goes in
      (next.good h its.lt).idle k (idle_of (apply h d (half p m)) k unended none)

  holds_next : (k : ℕ) → ((q : Bool) → HoldsNone m q k) → (q : Bool) → HoldsNone (apply_two h p d m) q k
  holds_next k was = each_half (λ q x. idle_in x k → x.waiting k ≡ []) h p d m (own_holds k d.ended refl) (was (not p))

-- so it is at each place of a pair run
pub record AreApart (m : Pair) : Type 0 where
  pub one : (k : ℕ) → RunsOne m k
  pub none : (p : Bool) (k : ℕ) → HoldsNone m p k

start_none : (s : PairSetting) (p : Bool) (k : ℕ) → HoldsNone (pair_after s []) p k
start_none s true k none = refl
start_none s false k none = refl

pub apart : (s : PairSetting) (before : PairHistory) → IsPairRunHistory s before → AreApart (pair_after s before)
apart s [] run = record { one = λ k. inl refl; none = start_none s }
apart s (e ∷ before) run =
    let was = apart s before run.0 in
    record {
      one = λ k. one_next s e before run k (was.one e.entry.hart.0) (was.one k);
      none = λ q k. holds_next s e before run k (λ r. was.none r k) q;
    }

-- the stores that wait on a hart are of one process
pub of_one_process : (s : PairSetting) (log : List Entry) (h : ℕ) → IsPairRun s log
    → ((half false (pair_after s (pair_history s log))).waiting h ≡ []) ⊎ ((half true (pair_after s (pair_history s log))).waiting h ≡ [])
of_one_process s log h run =
    let are = apart s (pair_history s log) run in
    elim (are.one h) [ inl idle ↦ inr (are.none true h idle) | inr idle ↦ inl (are.none false h idle) ]
