-- In a pair run a barrier returns only where each hart that it is about is passed (membarrier(2)): what the hart stored before the call, of
-- either process, is in memory. While a thread waits in its barrier, each hart that the barrier is about is left or passed.
use Rattle.std.proofs.lemmas.Nat.Bits.{bit_at-zero}
use Rattle.std.proofs.lemmas.Option.{same_Some}
use Rattle.mach_types.specs.declared.events.Choice.TheVariants as asked
use Rattle.mach_types.specs.declared.events.Kind.TheVariants as kind
use Rattle.block_model.specs.Events.Finish.{refusal_return}
use Rattle.block_model.specs.Requests.{awaits_of_own, without_hart}
use Rattle.block_model.proofs.Laws.{without_hart-other}
use Rattle.shared_procs.specs.StoresEntered.{is_on}
use Rattle.shared_procs.proofs.Common.{◌≡◌, ℕ, ◌+◌, ◌≤◌, ◌⊎◌, List, [], ◌∷◌, ◌++◌, length, fold, eqb, Bool, true, false, not, cond, ◌&&◌, inl, inr, Option, Some, None, refl, sym, ap, ◌∙◌, subst, arith, acting, apply, apply_two, Barrier, begun_by, cases_eq, Choice, choice_of, choice_with, Done, End, ended_if, entered, Entry, eqb-true, event_two, executed, false≢true, fold-append, half, has_hart, Here, here_two, is_of_process, IsPairRun, IsPairRunHistory, on_hart, option_map, option_or, own_choice, Pair, pair_after, pair_history, PairBegun, PairEvent, PairHistory, PairSetting, Plain, refusal_done_by, refusal_of, returning, runs, Store, Targets, begun_or, is_by, and_parts}
use Rattle.shared_procs.proofs.EventFacts.{takes_where_none_waits}
use Rattle.shared_procs.proofs.Halves.{by_process, waits_by_half}
use Rattle.shared_procs.proofs.HartsApart.{apart, event_of}
use Rattle.shared_procs.proofs.Sums.{sum_is}

-- WHAT ENTERED STAYS SO

more_by : (b : Bool) (n m : ℕ) → n ≤ cond b (n + m) n
more_by true n m = omega arith
more_by false n m = omega arith

executed_more : (k : ℕ) (e : PairEvent) (before : PairHistory) → executed k before ≤ executed k (e ∷ before)
executed_more k e before = more_by (is_on k e) (executed k before) (length e.done.executed)

entered_more : (s : PairSetting) (k : ℕ) (e : PairEvent) (before : PairHistory) → entered s k before ≤ entered s k (e ∷ before)
entered_more s k e before =
    let own = more_by (is_on k e) (entered s k before) e.done.drained in
    omega arith

-- THE CALL OF A BARRIER

-- the call is an event of its process and hart, right after what is before it
abbrev pub IsCalled : Bool → ℕ → PairHistory → PairBegun → Type 0
IsCalled p h before b =
    (since : PairHistory) × (call : PairEvent) × (before ≡ since ++ call ∷ b.call) × (call.process ≡ p) × (call.entry.hart.0 ≡ h)
    × (call.done.barrier ≡ Some b.barrier)

called_next : (p : Bool) (h : ℕ) (e : PairEvent) (before : PairHistory) (b : PairBegun) → IsCalled p h before b → IsCalled p h (e ∷ before) b
called_next p h e before b was = (e ∷ was.0, was.1, ap (λ (rest : PairHistory). e ∷ rest) was.2, was.3, was.4, was.5)

pub is_called : (p : Bool) (h : ℕ) (before : PairHistory) (b : PairBegun) → begun_by p h before ≡ Some b → IsCalled p h before b
is_called p h [] b is = absurd cc
is_called p h (e ∷ before) b is = by_event (is_by p h e) refl (λ older. called_next p h e before b (is_called p h before b older)) is
  where
    by_barrier : (barrier : Option Barrier) → e.done.barrier ≡ barrier → is_by p h e ≡ true → (begun_by p h before ≡ Some b → IsCalled p h (e ∷ before) b)
        → begun_or (begun_by p h before) before barrier ≡ Some b → IsCalled p h (e ∷ before) b
    by_barrier None its own older is = older is
    by_barrier (Some barrier) its own older is =
        let call : before ≡ b.call = cc in
        let same : barrier ≡ b.barrier = cc in
        let at = and_parts (is_of_process p e.process) (is_on h e) own in
        ([], e, ap (λ (rest : PairHistory). e ∷ rest) call, by_process p e.process at.0, eqb-true e.entry.hart.0 h at.1, its ∙ ap Some same)

    by_event : (own : Bool) → is_by p h e ≡ own → (begun_by p h before ≡ Some b → IsCalled p h (e ∷ before) b)
        → cond own (begun_or (begun_by p h before) before e.done.barrier) (begun_by p h before) ≡ Some b → IsCalled p h (e ∷ before) b
    by_event true own older is = by_barrier e.done.barrier refl own older is
    by_event false other older is = older is

-- A HART THAT TAKES REQUESTS IS PASSED

took_passed : (s : PairSetting) (e : PairEvent) (before : PairHistory) → IsPairRunHistory s (e ∷ before) → e.done.took ≡ true
    → executed e.entry.hart.0 before ≤ entered s e.entry.hart.0 before
took_passed s e before run took =
    let m = pair_after s before in
    let p = e.process in
    let h = e.entry.hart.0 in
    let its = event_of s e before run in
    let are = apart s before run.0 in
    let own = takes_where_none_waits (here_two s m p h) (own_choice (choice_of e.entry)) its.free (sym its.took_is ∙ took) in
    let none : length ((half p m).waiting h) ≡ 0 = ap (λ (ws : List Store). length ws) own in
    let no_other : length ((half (not p) m).waiting h) ≡ 0 = ap (λ (ws : List Store). length ws) (are.none (not p) h (its.alone (are.one h))) in
    let all = sum_is s before h run.0 in
    let both = waits_by_half p m h in
    omega arith

-- WHILE A THREAD WAITS IN ITS BARRIER

-- what an event makes of the harts that the barrier of a hart waits for
module _ (h g left : ℕ) (d : Done) (m : Pair) where
  abbrev NextAwaits : Bool → Option ℕ → Type 0
  NextAwaits own awaits = cond own (awaits_of_own d awaits) (cond d.took (option_map (without_hart g) awaits) awaits) ≡ Some left

  of_own : (o : Option End) (x : Plain) → (ended_if o (apply g d x)).awaits h ≡ Some left → NextAwaits (eqb g h) (x.awaits h)
  of_own None x is = is
  of_own (Some e) x is = absurd cc

  awaited : (p q : Bool) → (half p (apply_two g q d m)).awaits h ≡ Some left → NextAwaits (is_of_process p q && eqb g h) ((half p m).awaits h)
  awaited true true is = of_own d.ended m.second is
  awaited true false is = is
  awaited false true is = is
  awaited false false is = of_own d.ended m.first is

-- the barrier that a thread waits in is the newest of its process on its hart, and each hart that it is about is left or passed
record IsPassedSoFar (s : PairSetting) (before : PairHistory) (p : Bool) (h left : ℕ) : Type 0 where
  begun : PairBegun
  newest : begun_by p h before ≡ Some begun
  earlier : (k : ℕ) → executed k begun.call ≤ executed k before
  passed : (k : ℕ) → has_hart begun.barrier.targets k ≡ true → has_hart left k ≡ false → executed k begun.call ≤ entered s k before

module _ (s : PairSetting) (e : PairEvent) (before : PairHistory) (run : IsPairRunHistory s (e ∷ before)) (p : Bool) (h left : ℕ)
    (was : (all : ℕ) → (half p (pair_after s before)).awaits h ≡ Some all → IsPassedSoFar s before p h all) where
  abbrev awaits : Option ℕ
  awaits = (half p (pair_after s before)).awaits h

  abbrev now : PairHistory
  now = e ∷ before

  -- the newest one, where the event is one of its process and hart, or isn't
  abbrev newest_if : Bool → Option PairBegun
  newest_if b = cond b (begun_or (begun_by p h before) before e.done.barrier) (begun_by p h before)

  -- one that begins: each hart that it is about is left
  begins_now : (barrier : Barrier) → is_by p h e ≡ true → e.done.barrier ≡ Some barrier → barrier.targets ≡ left → IsPassedSoFar s now p h left
  begins_now barrier own is all = record {
    begun = record { call = before; barrier = barrier };
    newest = ap newest_if own ∙ ap (begun_or (begun_by p h before) before) is;
    earlier = λ k. executed_more k e before;
    passed = λ k about none. absurd (false≢true (sym none ∙ ap (λ set. has_hart set k) (sym all) ∙ about));
  }

  -- one that waits on, where the harts that are no longer left are passed
  waits_on : (all : ℕ) → awaits ≡ Some all → begun_by p h now ≡ begun_by p h before
      → ((k : ℕ) → has_hart left k ≡ false → (has_hart all k ≡ false) ⊎ (executed k before ≤ entered s k before)) → IsPassedSoFar s now p h left
  waits_on all waits same passed =
      let old = was all waits in
      record {
        begun = old.begun;
        newest = same ∙ old.newest;
        earlier = λ k. let was_earlier = old.earlier k in let more = executed_more k e before in omega arith;
        passed = λ k about none.
            let more = entered_more s k e before in
            elim (passed k none) [
              | inl out ↦ let entered = old.passed k about out in omega arith
              | inr taken ↦ let earlier = old.earlier k in omega arith
            ];
      }

  by_own : (returned : Bool) (barrier : Option Barrier) → is_by p h e ≡ true → e.done.barrier ≡ barrier
      → cond returned None (option_or (option_map (λ (b : Barrier). b.targets) barrier) awaits) ≡ Some left → IsPassedSoFar s now p h left
  by_own true barrier own its is = absurd cc
  by_own false (Some barrier) own its is = begins_now barrier own its cc
  by_own false None own its is =
      waits_on left is (ap newest_if own ∙ ap (begun_or (begun_by p h before) before) its) (λ k none. inl none)

  -- a hart that took its requests is passed
  taken : (all k : ℕ) → without_hart e.entry.hart.0 all ≡ left → e.done.took ≡ true → has_hart left k ≡ false
      → (has_hart all k ≡ false) ⊎ (executed k before ≤ entered s k before)
  taken all k less took none = elim (cases_eq k e.entry.hart.0) [
    | inl same ↦ inr (subst (λ j. executed j before ≤ entered s j before) (sym same) (took_passed s e before run took))
    | inr other ↦ inl (sym (without_hart-other e.entry.hart.0 all k other) ∙ ap (λ set. has_hart set k) less ∙ none)
  ]

  by_other : (took : Bool) (o : Option ℕ) → is_by p h e ≡ false → e.done.took ≡ took → awaits ≡ o
      → cond took (option_map (without_hart e.entry.hart.0) o) o ≡ Some left → IsPassedSoFar s now p h left
  by_other true None other its waits is = absurd cc
  by_other false None other its waits is = absurd cc
  by_other false (Some all) other its waits is = waits_on left (waits ∙ is) (ap newest_if other) (λ k none. inl none)
  by_other true (Some all) other its waits is =
      let less : without_hart e.entry.hart.0 all ≡ left = cc in
      waits_on all waits (ap newest_if other) (λ k none. taken all k less its none)

  so_far_by : (own : Bool) → is_by p h e ≡ own
      → cond own (awaits_of_own e.done awaits) (cond e.done.took (option_map (without_hart e.entry.hart.0) awaits) awaits) ≡ Some left
      → IsPassedSoFar s now p h left
  so_far_by true own is = by_own e.done.returned e.done.barrier own refl is
  so_far_by false other is = by_other e.done.took awaits other refl refl is

start_awaits : (s : PairSetting) (p : Bool) (h left : ℕ) → (half p (pair_after s [])).awaits h ≡ Some left → ⊥
start_awaits s true h left is = cc
start_awaits s false h left is = cc

so_far : (s : PairSetting) (before : PairHistory) (p : Bool) (h left : ℕ) → IsPairRunHistory s before → (half p (pair_after s before)).awaits h ≡ Some left
    → IsPassedSoFar s before p h left
so_far s [] p h left run is = absurd (start_awaits s p h left is)
so_far s (e ∷ before) p h left run is =
    so_far_by s e before run p h left (λ all waits. so_far s before p h all run.0 waits) (is_by p h e) refl
    (awaited h e.entry.hart.0 left e.done (pair_after s before) p e.process is)

-- WHERE IT RETURNS

waits_for_none : (o : Option ℕ) → refusal_return o ≡ None → o ≡ Some 0
waits_for_none None free = cc
waits_for_none (Some left) free = by (eqb left 0) refl free
  where
    by : (b : Bool) → eqb left 0 ≡ b → cond b None (Some Targets) ≡ None → Some left ≡ Some 0
    by true is free = ap Some (eqb-true left 0 is)
    by false is free = cc

done_where : (here : Here) (r : Option ℕ) → refusal_done_by here r ≡ None → here.awaits ≡ Some 0
done_where here None free = cc
done_where here (Some t) free = waits_for_none here.awaits free

-- AT ITS PLACE IN A LOG

-- the history after more entries
abbrev pub goes_on_to : PairSetting → PairHistory → List Entry → PairHistory
goes_on_to s past later = fold (λ (before : PairHistory) (e : Entry). event_two s before e ∷ before) past later

pub history_more : (s : PairSetting) (log later : List Entry) → pair_history s (log ++ later) ≡ goes_on_to s (pair_history s log) later
unfolding pair_history
history_more s log later = fold-append (λ (before : PairHistory) (e : Entry). event_two s before e ∷ before) [] log later

pub run_before : (s : PairSetting) (later : List Entry) (past : PairHistory) → IsPairRunHistory s (goes_on_to s past later) → IsPairRunHistory s past
run_before s [] past run = run
run_before s (e ∷ later) past run = (run_before s later (event_two s past e ∷ past) run).0

pub none_left : (k : ℕ) → has_hart 0 k ≡ false
none_left k = ap (λ n. eqb n 1) (bit_at-zero k)

module _ (s : PairSetting) (earlier later : List Entry) (entry : Entry) (run : IsPairRun s (earlier ++ entry ∷ later)) (is : entry.kind ≡ kind.Done) where
  abbrev before : PairHistory
  before = pair_history s earlier

  abbrev m : Pair
  m = pair_after s before

  returned_at : IsPassedSoFar s before (on_hart m entry.hart.0) entry.hart.0 0
  returned_at =
      let h = entry.hart.0 in
      let now = run_before s later (event_two s before entry ∷ before) (subst (IsPairRunHistory s) (history_more s earlier (entry ∷ later)) run) in
      let choice : choice_of entry ≡ asked.Done = ap (λ k. choice_with k entry) is in
      let done : refusal_of asked.Done (here_two s m (on_hart m h) h) ≡ None =
      subst (λ (c : Choice). refusal_of (own_choice c) (here_two s m (acting m h c) h) ≡ None) choice (event_of s (event_two s before entry) before now).free in
      so_far s before (on_hart m h) h 0 now.0 (done_where (here_two s m (on_hart m h) h) (runs (here_two s m (on_hart m h) h)) done)

  pub returns : (b : PairBegun) × (returning s earlier entry.hart.0 ≡ Some b)
  returns = (returned_at.begun, returned_at.newest)

  pub stores_entered : (b : PairBegun) (k : ℕ) → returning s earlier entry.hart.0 ≡ Some b → has_hart b.barrier.targets k ≡ true
      → executed k b.call ≤ entered s k (pair_history s earlier)
  stores_entered b k newest about =
      let so = returned_at in
      let same = same_Some so.begun b (sym so.newest ∙ newest) in
      subst (λ (x : PairBegun). executed k x.call ≤ entered s k before) same
      (so.passed k (subst (λ (x : PairBegun). has_hart x.barrier.targets k ≡ true) (sym same) about) (none_left k))
