-- In a log of allowed entries a barrier returns only where each hart that it is about is passed (membarrier(2)). While a thread waits
-- in its barrier, each hart that the barrier is about has a request pending or is passed already.
use Rattle.block_model.proofs.Common.{◌≡◌, ◌≢◌, ℕ, ◌+◌, ◌≤◌, List, [], ◌∷◌, ◌++◌, length, length-append, length-drop, drop, eqb, arith, refl, sym, ap, ◌∙◌, subst, Bool, true, false, not, cond, ◌&&◌, ◌||◌, inl, inr, Option, Some, None, is_none, Barrier, Done, Entry, Event, Here, History, IsAllowedLog, IsRunHistory, Kind, Sequence, Setting, Store, and_right, awaits, awaits_of_own, begun_with, cases_eq, choice_with, done_done_by, done_of, done_take_by, drains, eqb-false, eqb-true, eqb_same, event, false≢true, fold, has_hart, here_in_history, history, is_inside_at, is_inside_here, is_instruction, is_of_hart, is_taken_in, ne_eqb, option_map, option_map_or, option_or, or_right, refusal_done_by, restart, restarts_at, running, runs, sequence_on, stores, taken_up, waiting, with_event, without_hart}
use Rattle.mach_types.specs.declared.events.Kind.TheVariants as kind
use Rattle.block_model.specs.Barriers.{Begun, HaveReturned, IsPassed, IsProperReturn, begun_on, begun_or}
use Rattle.block_model.specs.Requests.{has_taken}
use Rattle.block_model.proofs.ErrorCalls.{run_to}
use Rattle.block_model.proofs.EventEffects.{EventDeed, Restarts, Takes, deed_of}
use Rattle.block_model.proofs.Invariants.Events.{takes_where}
use Rattle.block_model.proofs.HartSets.{none_in, without_hart-has, without_hart-other}
use Rattle.block_model.proofs.Replay.{history-more}
use Rattle.block_model.proofs.Runs.{fit_at}
use Rattle.block_model.proofs.Sequences.{Begins, Elsewhere, IsOf, Own, SequenceStep, TakesIn, sequence_step}
use Rattle.block_model.proofs.WholeEvents.{did, is_free, place}

-- WHICH EVENTS TAKE REQUESTS

-- only a take does
take_deed : (here : Here) (tid : ℕ) {k : Kind} {d : Done} → EventDeed here tid k d → d.took ≡ true → k ≡ kind.Take
take_deed here tid Takes took = refl
take_deed here tid (Restarts t at) took = refl
take_deed here tid deed took = absurd (false≢true took)

is_take : (here : Here) (k : Kind) (x : Entry) → (done_of (choice_with k x) here).took ≡ true → k ≡ kind.Take
is_take here k x took = take_deed here x.tid.0 (deed_of here k x) took

-- THE CALL OF A BARRIER

-- a place is no later than another one, so no hart had executed more stores there
pub record IsEarlier (call before : History) : Type 0 where
  pub place : length call ≤ length before
  pub fewer : (k : ℕ) → length (stores k call) ≤ length (stores k before)

more_stores : (b : Bool) (ws more : List Store) → length ws ≤ length (cond b (ws ++ more) ws)
more_stores true ws more = omega (arith, length-append ws more)
more_stores false ws more = omega arith

earlier_next : (call : History) (e : Event) (before : History) → IsEarlier call before → IsEarlier call (e ∷ before)
earlier_next call e before was = record {
  place = let place = was.place in omega arith;
  fewer = λ k. let fewer = was.fewer k in let more = more_stores (is_of_hart k e) (stores k before) e.done.executed in omega arith;
}

-- the newest barrier of a hart began earlier
call_earlier : (h : ℕ) (before : History) (b : Begun) → begun_on h before ≡ Some b → IsEarlier b.call before
call_earlier h [] b is = absurd cc
call_earlier h (e ∷ before) b is = earlier_next b.call e before (by_hart (is_of_hart h e) (λ older. call_earlier h before b older) is)
  where
    by_barrier : (barrier : Option Barrier) → (begun_on h before ≡ Some b → IsEarlier b.call before)
        → begun_or (begun_on h before) before barrier ≡ Some b → IsEarlier b.call before
    by_barrier None older is = older is
    by_barrier (Some barrier) older is =
        let same : before ≡ b.call = cc in
        subst (λ (call : History). IsEarlier call before) same (record { place = omega arith; fewer = λ k. omega arith })

    by_hart : (c : Bool) → (begun_on h before ≡ Some b → IsEarlier b.call before)
        → cond c (begun_or (begun_on h before) before e.done.barrier) (begun_on h before) ≡ Some b → IsEarlier b.call before
    by_hart true older is = by_barrier e.done.barrier older is
    by_hart false older is = older is

-- A HART THAT IS PASSED STAYS SO

more_drains : (b : Bool) (n m : ℕ) → n ≤ cond b (n + m) n
more_drains true n m = omega arith
more_drains false n m = omega arith

-- each sequence that a hart's newest event is of began no earlier than a call
abbrev IsAnew : Setting → History → History → ℕ → Type 0
IsAnew s call before k = (q : Sequence) → sequence_on s k before ≡ Some q → length call ≤ length q.begun

module _ (s : Setting) (call : History) (e : Event) (before : History) (k : ℕ) (place : length call ≤ length before) (was : IsAnew s call before k) where
  anew_own : {q : Sequence} → IsOf s e before k q → length call ≤ length q.begun
  anew_own (Begins none first) = place
  anew_own (TakesIn r at taken) = was r at

  anew_by : (q : Sequence) → SequenceStep s e before k q → length call ≤ length q.begun
  anew_by q (Own own inside its) = anew_own its
  anew_by q (Elsewhere other at) = was q at

  anew_next : IsAnew s call (e ∷ before) k
  anew_next q is = anew_by q (sequence_step s e before k q is)

pub passed_next : (s : Setting) (e : Event) (before : History) (b : Begun) (k : ℕ) → length b.call ≤ length before → IsPassed s before b k
    → IsPassed s (e ∷ before) b k
passed_next s e before b k place was = record {
  entered = let was = was.entered in let more = more_drains (is_of_hart k e) (drains k before) e.done.drained in omega arith;
  anew = λ q asks is. anew_next s b.call e before k place (λ r at. was.anew r asks at) q is;
}

-- A HART THAT TAKES REQUESTS IS PASSED

-- a take comes only where no store of its hart waits
all_entered : (h : ℕ) (before : History) → waiting h before ≡ [] → length (stores h before) ≤ drains h before
all_entered h before none =
    let left : length (drop (drains h before) (stores h before)) ≡ 0 = ap (λ (ws : List Store). length ws) none in
    omega (arith, length-drop (drains h before) (stores h before))

-- one that is asked for a restart interrupts the thread that runs
take_interrupts : (here : Here) (t : ℕ) (restarts : Bool) (r : Option ℕ) → restarts ≡ true → r ≡ Some t
    → is_none (done_take_by here restarts r).interrupted ≡ false
take_interrupts here t false r asks runs = absurd (false≢true asks)
take_interrupts here t true None asks runs = absurd cc
take_interrupts here t true (Some u) asks runs = refl

either_way : (b : Bool) (o : Option Sequence) → cond b o o ≡ o
either_way true o = refl
either_way false o = refl

module _ (s : Setting) (e : Event) (before : History) (run : IsRunHistory s (e ∷ before)) (is : e.entry.kind ≡ kind.Take) where
  abbrev h : ℕ
  h = e.entry.hart.0

  none_waiting : waiting h before ≡ []
  none_waiting = (takes_where (place s e before run) (is_free s e before run kind.Take is)).1

  -- a sequence takes in no take that interrupts
  takes_none : (o : Option Sequence) → is_none e.done.interrupted ≡ false → taken_up h e before o ≡ None
  takes_none None interrupts = ap (λ k. cond (is_instruction k) (Some (begun_with h e before)) None) is
  takes_none (Some q) interrupts =
      ap (λ k. cond (is_taken_in k e.done.interrupted) (Some (with_event e before q)) None) is
      ∙ ap (λ b. cond b (Some (with_event e before q)) None) interrupts

  cut_by : (r : Option ℕ) → running s h before ≡ r → restart h before ≡ true
      → cond (is_inside_at s h before) (taken_up h e before (sequence_on s h before)) None ≡ None
  cut_by None at asks =
      ap (λ b. cond b (taken_up h e before (sequence_on s h before)) None)
      (ap (λ r. option_map_or (is_inside_here (here_in_history s before h)) r false) at)
  cut_by (Some t) at asks =
      let here = here_in_history s before h in
      let interrupts : is_none e.done.interrupted ≡ false =
      ap (λ (d : Done). is_none d.interrupted) (did s e before run kind.Take is) ∙ take_interrupts here t here.restart (runs here) asks at in
      ap (λ o. cond (is_inside_at s h before) o None) (takes_none (sequence_on s h before) interrupts)
      ∙ either_way (is_inside_at s h before) None

  -- so after a take that is asked for a restart the newest event of its hart is of no sequence
  cut : restart h before ≡ true → sequence_on s h (e ∷ before) ≡ None
  cut asks =
      ap (λ b. cond (not b) (sequence_on s h before) (cond (is_inside_at s h before) (taken_up h e before (sequence_on s h before)) None)) (eqb_same h)
      ∙ cut_by (running s h before) refl asks

  pub passed_here : (b : Begun) → IsEarlier b.call before → (b.barrier.restart ≡ true → restart h before ≡ true) → IsPassed s (e ∷ before) b h
  passed_here b earlier asked = record {
    entered =
        let fewer = earlier.fewer h in
        let all = all_entered h before none_waiting in
        let more = more_drains (is_of_hart h e) (drains h before) e.done.drained in
        omega arith;
    anew = λ q asks at. let none : None ≡ Some q = sym (cut (asked asks)) ∙ at in absurd cc;
  }

-- WHILE A THREAD WAITS IN ITS BARRIER

-- the barrier of a hart that waits is the newest that its thread began; where it asks for a restart, so do the requests of the harts
-- that are left; and each other hart that it is about is passed
record IsPassedSoFar (s : Setting) (before : History) (h left : ℕ) : Type 0 where
  begun : Begun
  newest : begun_on h before ≡ Some begun
  asked : (k : ℕ) → k ≢ h → has_hart left k ≡ true → begun.barrier.restart ≡ true → restart k before ≡ true
  passed : (k : ℕ) → has_hart begun.barrier.targets k ≡ true → has_hart left k ≡ false → IsPassed s before begun k

-- the request of another hart stays as an event that doesn't take it leaves it
restart_stays : (k h : ℕ) (d : Done) (before : Bool) → has_taken k h d ≡ false → before ≡ true
    → cond (has_taken k h d) false (restarts_at k d.barrier || before) ≡ true
restart_stays k h d before none asks =
    ap (λ b. cond b false (restarts_at k d.barrier || before)) none ∙ or_right (restarts_at k d.barrier) before asks

none_taken : (k h : ℕ) (d : Done) → d.took ≡ false → has_taken k h d ≡ false
none_taken k h d none = and_right (eqb h k) d.took none

other_taken : (k h : ℕ) (d : Done) → h ≢ k → has_taken k h d ≡ false
other_taken k h d other = ap (λ b. b && d.took) (ne_eqb h k other)

module _ (s : Setting) (e : Event) (before : History) (run : IsRunHistory s (e ∷ before)) (h : ℕ)
    (was : (left : ℕ) → awaits h before ≡ Some left → IsPassedSoFar s before h left) where
  abbrev now : History
  now = e ∷ before

  -- what an event of its own hart makes of the newest barrier
  own_begun : (barrier : Option Barrier) → e.entry.hart.0 ≡ h → e.done.barrier ≡ barrier → begun_on h now ≡ begun_or (begun_on h before) before barrier
  own_begun barrier own is =
      ap (λ b. cond b (begun_or (begun_on h before) before e.done.barrier) (begun_on h before)) (ap (λ j. eqb j h) own ∙ eqb_same h)
      ∙ ap (begun_or (begun_on h before) before) is

  other_begun : is_of_hart h e ≡ false → begun_on h now ≡ begun_on h before
  other_begun other = ap (λ b. cond b (begun_or (begun_on h before) before e.done.barrier) (begun_on h before)) other

  -- one that begins: each hart that it is about is left
  begins_now : (barrier : Barrier) (left : ℕ) → e.entry.hart.0 ≡ h → e.done.barrier ≡ Some barrier → barrier.targets ≡ left → IsPassedSoFar s now h left
  begins_now barrier left own is all = record {
    begun = record { call = before; barrier = barrier };
    newest = own_begun (Some barrier) own is;
    asked = λ k other has asks.
        ap (λ b. cond b false (restarts_at k e.done.barrier || restart k before)) (other_taken k e.entry.hart.0 e.done (λ same. other (sym same ∙ own)))
        ∙ ap (λ b. restarts_at k b || restart k before) is
        ∙ ap (λ b. (b && barrier.restart) || restart k before) (ap (λ set. has_hart set k) all ∙ has)
        ∙ ap (λ b. b || restart k before) asks;
    passed = λ k about none. absurd (false≢true (sym none ∙ sym (ap (λ set. has_hart set k) all) ∙ about));
  }

  -- one that goes on to wait, by an event of its own hart
  waits_on : (left : ℕ) → e.entry.hart.0 ≡ h → e.done.barrier ≡ None → awaits h before ≡ Some left → IsPassedSoFar s now h left
  waits_on left own is waits =
      let old = was left waits in
      let earlier = call_earlier h before old.begun old.newest in
      record {
        begun = old.begun;
        newest = own_begun None own is ∙ old.newest;
        asked = λ k other has asks.
            restart_stays k e.entry.hart.0 e.done (restart k before) (other_taken k e.entry.hart.0 e.done (λ same. other (sym same ∙ own)))
            (old.asked k other has asks);
        passed = λ k about none. passed_next s e before old.begun k earlier.place (old.passed k about none);
      }

  by_own : (returned : Bool) (barrier : Option Barrier) (left : ℕ) → e.entry.hart.0 ≡ h → e.done.barrier ≡ barrier
      → cond returned None (option_or (option_map (λ b. b.targets) barrier) (awaits h before)) ≡ Some left → IsPassedSoFar s now h left
  by_own true barrier left own is waits = absurd cc
  by_own false None left own is waits = waits_on left own is waits
  by_own false (Some barrier) left own is waits = begins_now barrier left own is cc

  -- by an event of another hart that takes no requests
  takes_nothing : (left : ℕ) → is_of_hart h e ≡ false → e.done.took ≡ false → awaits h before ≡ Some left → IsPassedSoFar s now h left
  takes_nothing left other none waits =
      let old = was left waits in
      let earlier = call_earlier h before old.begun old.newest in
      record {
        begun = old.begun;
        newest = other_begun other ∙ old.newest;
        asked = λ k ne has asks.
            restart_stays k e.entry.hart.0 e.done (restart k before) (none_taken k e.entry.hart.0 e.done none) (old.asked k ne has asks);
        passed = λ k about none. passed_next s e before old.begun k earlier.place (old.passed k about none);
      }

  -- or that takes them: then that hart is passed, where it is left
  by_left : (set : ℕ) (old : IsPassedSoFar s before h set) (b : Bool) → has_hart set e.entry.hart.0 ≡ b → e.entry.kind ≡ kind.Take
      → e.entry.hart.0 ≢ h → has_hart old.begun.barrier.targets e.entry.hart.0 ≡ true → IsPassed s now old.begun e.entry.hart.0
  by_left set old true is takes ne about =
      passed_here s e before run takes old.begun (call_earlier h before old.begun old.newest) (λ asks. old.asked e.entry.hart.0 ne is asks)
  by_left set old false is takes ne about =
      let earlier = call_earlier h before old.begun old.newest in
      passed_next s e before old.begun e.entry.hart.0 earlier.place (old.passed e.entry.hart.0 about is)

  takes_its : (set left : ℕ) → is_of_hart h e ≡ false → e.done.took ≡ true → awaits h before ≡ Some set → without_hart e.entry.hart.0 set ≡ left
      → IsPassedSoFar s now h left
  takes_its set left other took waits rest =
      let old = was set waits in
      let earlier = call_earlier h before old.begun old.newest in
      let takes : e.entry.kind ≡ kind.Take =
      is_take (place s e before run) e.entry.kind e.entry (sym (ap (λ (d : Done). d.took) (did s e before run e.entry.kind refl)) ∙ took) in
      record {
        begun = old.begun;
        newest = other_begun other ∙ old.newest;
        asked = λ k apart has asks.
            let in_it = without_hart-has e.entry.hart.0 set k (ap (λ l. has_hart l k) rest ∙ has) in
            restart_stays k e.entry.hart.0 e.done (restart k before) (other_taken k e.entry.hart.0 e.done (λ same. in_it.0 (sym same)))
            (old.asked k apart in_it.1 asks);
        passed = λ k about none. elim (cases_eq k e.entry.hart.0) [
          | inl same ↦
              subst (IsPassed s now old.begun) (sym same)
              (by_left set old (has_hart set e.entry.hart.0) refl takes (eqb-false e.entry.hart.0 h other)
              (ap (has_hart old.begun.barrier.targets) (sym same) ∙ about))
          | inr apart ↦
              passed_next s e before old.begun k earlier.place
              (old.passed k about (sym (without_hart-other e.entry.hart.0 set k apart) ∙ ap (λ l. has_hart l k) rest ∙ none))
        ];
      }

  by_other : (took : Bool) (o : Option ℕ) (left : ℕ) → is_of_hart h e ≡ false → e.done.took ≡ took → awaits h before ≡ o
      → cond took (option_map (without_hart e.entry.hart.0) o) o ≡ Some left → IsPassedSoFar s now h left
  by_other true None left other is at waits = absurd cc
  by_other true (Some old) left other is at waits = takes_its old left other is at cc
  by_other false o left other is at waits = takes_nothing left other is (at ∙ waits)

  by_event : (own : Bool) (left : ℕ) → is_of_hart h e ≡ own
      → cond own (awaits_of_own e.done (awaits h before)) (cond e.done.took (option_map (without_hart e.entry.hart.0) (awaits h before)) (awaits h before)) ≡ Some left
      → IsPassedSoFar s now h left
  by_event true left own waits = by_own e.done.returned e.done.barrier left (eqb-true e.entry.hart.0 h own) refl waits
  by_event false left other waits = by_other e.done.took (awaits h before) left other refl refl waits

so_far : (s : Setting) (before : History) → IsRunHistory s before → (h left : ℕ) → awaits h before ≡ Some left → IsPassedSoFar s before h left
so_far s [] run h left waits = absurd cc
so_far s (e ∷ before) run h left waits =
    by_event s e before run h (λ old at. so_far s before run.0 h old at) (is_of_hart h e) left refl waits

-- WHERE A BARRIER RETURNS

proper_return : (s : Setting) (e : Event) (before : History) → IsRunHistory s (e ∷ before) → e.done.returned ≡ true → IsProperReturn s e before
proper_return s e before run returned =
    let there = so_far s before run.0 e.entry.hart.0 0 ((fit_at s e before run).barriers.returned returned) in
    record { begun = there.begun; newest = there.newest; passed = λ k about. there.passed k about (none_in k) }

pub have_returned : (s : Setting) (before : History) → IsRunHistory s before → HaveReturned s before
have_returned s [] run = tt
have_returned s (e ∷ before) run = (have_returned s before run.0, λ returned. proper_return s e before run returned)

-- IN LOGS

-- where done comes a barrier returns
pub returns_by : (here : Here) (r : Option ℕ) → refusal_done_by here r ≡ None → (done_done_by here r).returned ≡ true
returns_by here None free = absurd cc
returns_by here (Some t) free = refl

returns_where_done : (s : Setting) (e : Event) (before : History) → IsRunHistory s (e ∷ before) → e.entry.kind ≡ kind.Done → e.done.returned ≡ true
returns_where_done s e before run is =
    let here = place s e before run in
    ap (λ (d : Done). d.returned) (did s e before run kind.Done is) ∙ returns_by here (runs here) (is_free s e before run kind.Done is)

proper_at : (s : Setting) (earlier later : List Entry) (entry : Entry) → IsAllowedLog s (earlier ++ entry ∷ later) → entry.kind ≡ kind.Done
    → IsProperReturn s (event s (history s earlier) entry) (history s earlier)
proper_at s earlier later entry run is =
    let to = run_to s earlier later entry run in
    proper_return s (event s (history s earlier) entry) (history s earlier) to
    (returns_where_done s (event s (history s earlier) entry) (history s earlier) to is)

pub begun_at : (s : Setting) (earlier later : List Entry) (entry : Entry) → IsAllowedLog s (earlier ++ entry ∷ later) → entry.kind ≡ kind.Done
    → (b : Begun) × (begun_on entry.hart.0 (history s earlier) ≡ Some b) × (awaits entry.hart.0 (history s earlier) ≡ Some 0)
begun_at s earlier later entry run is =
    let before = history s earlier in
    let to = run_to s earlier later entry run in
    let proper = proper_at s earlier later entry run is in
    let returns = returns_where_done s (event s before entry) before to is in
    (proper.begun, proper.newest, (fit_at s (event s before entry) before to).barriers.returned returns)

pub passed_at : (s : Setting) (earlier later : List Entry) (entry : Entry) (b : Begun) (k : ℕ) → IsAllowedLog s (earlier ++ entry ∷ later)
    → entry.kind ≡ kind.Done → begun_on entry.hart.0 (history s earlier) ≡ Some b → has_hart b.barrier.targets k ≡ true
    → IsPassed s (history s earlier) b k
passed_at s earlier later entry b k run is newest about =
    let proper = proper_at s earlier later entry run is in
    let both : Some proper.begun ≡ Some b = sym proper.newest ∙ newest in
    let same : b ≡ proper.begun = cc in
    subst (λ (x : Begun). IsPassed s (history s earlier) x k) (sym same) (proper.passed k (ap (λ (x : Begun). has_hart x.barrier.targets k) (sym same) ∙ about))

-- and a hart that is passed stays so to the end of a log
passed_on : (s : Setting) (rest : List Entry) (before : History) (b : Begun) (k : ℕ) → length b.call ≤ length before → IsPassed s before b k
    → IsPassed s (fold (λ x e. event s x e ∷ x) before rest) b k
passed_on s [] before b k place was = was
passed_on s (e ∷ rest) before b k place was =
    passed_on s rest (event s before e ∷ before) b k (omega arith) (passed_next s (event s before e) before b k place was)

pub passed_since : (s : Setting) (earlier later : List Entry) (entry : Entry) (b : Begun) (k : ℕ) → IsAllowedLog s (earlier ++ entry ∷ later)
    → entry.kind ≡ kind.Done → begun_on entry.hart.0 (history s earlier) ≡ Some b → has_hart b.barrier.targets k ≡ true
    → IsPassed s (history s (earlier ++ entry ∷ later)) b k
passed_since s earlier later entry b k run is newest about =
    let earlier_call = call_earlier entry.hart.0 (history s earlier) b newest in
    subst (λ (x : History). IsPassed s x b k) (sym (history-more s earlier (entry ∷ later)))
    (passed_on s (entry ∷ later) (history s earlier) b k earlier_call.place (passed_at s earlier later entry b k run is newest about))

-- the call of a barrier is an event of its hart, right after what is before it
abbrev pub IsCalled : ℕ → History → Begun → Type 0
IsCalled h before b =
    (since : History) × (call : Event) × (before ≡ since ++ call ∷ b.call) × (call.entry.hart.0 ≡ h) × (call.done.barrier ≡ Some b.barrier)

called_next : (h : ℕ) (e : Event) (before : History) (b : Begun) → IsCalled h before b → IsCalled h (e ∷ before) b
called_next h e before b was = (e ∷ was.0, was.1, ap (λ (rest : History). e ∷ rest) was.2, was.3, was.4)

pub is_called : (h : ℕ) (before : History) (b : Begun) → begun_on h before ≡ Some b → IsCalled h before b
is_called h [] b is = absurd cc
is_called h (e ∷ before) b is = by_hart (is_of_hart h e) refl (λ older. called_next h e before b (is_called h before b older)) is
  where
    by_barrier : (barrier : Option Barrier) → e.done.barrier ≡ barrier → e.entry.hart.0 ≡ h → (begun_on h before ≡ Some b → IsCalled h (e ∷ before) b)
        → begun_or (begun_on h before) before barrier ≡ Some b → IsCalled h (e ∷ before) b
    by_barrier None its own older is = older is
    by_barrier (Some barrier) its own older is =
        let call : before ≡ b.call = cc in
        let same : barrier ≡ b.barrier = cc in
        ([], e, ap (λ (rest : History). e ∷ rest) call, own, its ∙ ap Some same)

    by_hart : (c : Bool) → is_of_hart h e ≡ c → (begun_on h before ≡ Some b → IsCalled h (e ∷ before) b)
        → cond c (begun_or (begun_on h before) before e.done.barrier) (begun_on h before) ≡ Some b → IsCalled h (e ∷ before) b
    by_hart true own older is = by_barrier e.done.barrier refl (eqb-true e.entry.hart.0 h own) older is
    by_hart false own older is = older is
