-- The choice of `run`: it is allowed, some hart has one while the run goes on, and a log of choices goes on by the entry that a
-- hart makes next.
use Rattle.block_model.proofs.Common.{◌≡◌, ◌≢◌, ℕ, ◌%◌, ◌<◌, ◌&&◌, ◌||◌, List, [], ◌∷◌, ◌++◌, length, find, refl, sym, ap, ◌∙◌, subst, arith, Bool, true, false, not, cond, eqb, ltb, leb, Option, Some, None, Ok, is_none, is_some, zero, suc, ◌⊎◌, inl, inr, Choice, Effect, End, Entry, FullBuffer, Here, History, IsAllowedLog, IsChosen, IsGoodHere, IsRunHistory, IsSound, Kernel, NoRequest, Saved, Setting, Store, Thread, ThreadState, Why, affinity_of, and_parts, awaits, cases_eq, choice_at, choice_of, cond-false, cond-true, cond_both, decide, ended, entry_in, eqb-true, event, false≢true, fault_by, fault_in, fetched, first_for, first_ready, fold, fold-append, goes_on, has_ended, has_hart, here_in_history, history, instruction_gate, instruction_of, is_choice, is_deliverable_on, is_held, is_live, is_local_on, is_ready, is_ready_state, is_register_only, is_storable, is_stuck, is_waiting_state, kernel, leb-false, lt-ltb, ltb-true, luck, luck_after, meaning, ne_eqb, next_effect, next_entry, next_fault, not-false, numbers, option_map, option_map_or, option_or, others_gate, over_at, pick, pick_with, ran, reached, refusal_done_by, refusal_drain_of, refusal_exec, refusal_exec_by, refusal_of, refusal_preempt_by, refusal_return, requests, running_on, runs, sight_in, sight_with, state_of, thread, thread_of, times, unless, unless_waiting, waiting, waiting_here, sorted_from_strictly_increasing, Sight, Inst, Pick}
use Rattle.std.proofs.lemmas.Bool.{eq-eqb}
use Rattle.mach_types.specs.Events.{number_of_choice}
use Rattle.mach_types.specs.declared.events.Choice.TheVariants as asked
use Rattle.mach_types.specs.declared.events.Why.TheVariants.{Waiting}
use Rattle.mach_types.specs.declared.threads.ThreadState.TheVariants as state
use Rattle.rv_inst.proofs.Laws.{local-rows}
use Rattle.rv_inst.specs.Class.{sets_register}
use Rattle.rv_inst.specs.declared.effects.Effect.TheVariants as effect
use Rattle.chooser.specs.Cases.{by_word, credit_of, drains_by, emptied_before, has_credit, has_stores, leaves_by, on_credit, pick_in, plainly, when_held_up, when_idle, when_in_barrier}
use Rattle.chooser.specs.Generators.{after_words, first_generator, word}
use Rattle.chooser.specs.declared.cases.Case.{Case}
use Rattle.chooser.specs.declared.cases.Case.TheVariants.{Settled, Open}
use Rattle.block_model.specs.Choosing.{all_chosen, pick_at}
use Rattle.block_model.specs.Sights.{is_all_taken}
use Rattle.block_model.proofs.Runs.{decided_is, IsAllowedLog-append, history-append, history-nil, settled}
use Rattle.block_model.proofs.PlainEvents.{plain_of}
use Rattle.block_model.proofs.RunEnds.{some_live, IsOpen, decide-open}
use Rattle.block_model.proofs.PlaceInvariant.{good_here}
use Rattle.block_model.proofs.HartSets.{some_hart, some_in}
use Rattle.block_model.proofs.KernelTables.{found_passes, found_sorted, running_there}
use Rattle.block_model.proofs.FixedRule.{ended_parts, allowed_where_none_waits, in_no_barrier, found_where, found_where_any, goes_somewhere, run_free, signal_free}

-- what is picked isn't refused

-- whether what is picked is allowed, where something is
abbrev IsFree : Here → Option Pick → Type 0
IsFree here None = Unit {0}
IsFree here (Some p) = refusal_of p.choice here ≡ None

-- an instruction that sets a register and the pc alone may be executed whatever waits
free_gate : (some full : Bool)
    → cond (some && false) (Some Waiting) (cond (full && false) (Some FullBuffer) None) ≡ None
free_gate true true = refl
free_gate true false = refl
free_gate false true = refl
free_gate false false = refl

free_effect : (waiting : ℕ) (byte : ℕ → Option ℕ) (writable : ℕ → Bool) (e : Effect) → sets_register e ≡ true
    → instruction_gate waiting (Some e) (is_some (fault_in byte writable e)) ≡ None
free_effect waiting byte writable (effect.Next rd value pc) sets = free_gate (ltb 0 waiting) _
free_effect waiting byte writable e sets = absurd (false≢true sets)

-- so may one that touches registers alone and doesn't fault
free_row : (waiting : ℕ) (byte : ℕ → Option ℕ) (writable : ℕ → Bool) (fetched_word : Option ℕ) (f : Saved) (o : Option Inst)
    → (option_map_or is_register_only o false && is_none (fault_by byte writable f.pc fetched_word (option_map (λ i. meaning i f.file f.pc) o))) ≡ true
    → instruction_gate waiting (option_map (λ i. meaning i f.file f.pc) o)
    (is_some (fault_by byte writable f.pc fetched_word (option_map (λ i. meaning i f.file f.pc) o))) ≡ None
free_row waiting byte writable fetched_word f None is = absurd (false≢true is)
free_row waiting byte writable fetched_word f (Some i) is =
    free_effect waiting byte writable (meaning i f.file f.pc) (sym (local-rows i f.file f.pc byte writable) ∙ is)

-- it is no call
pub no_call_held : (held : Bool) (e : Effect) → sets_register e ≡ true → others_gate held (Some e) ≡ None
no_call_held held effect.Call sets = absurd (false≢true sets)
no_call_held held e sets = refl

free_others : (held : Bool) (byte : ℕ → Option ℕ) (writable : ℕ → Bool) (fetched_word : Option ℕ) (f : Saved) (o : Option Inst)
    → (option_map_or is_register_only o false && is_none (fault_by byte writable f.pc fetched_word (option_map (λ i. meaning i f.file f.pc) o))) ≡ true
    → others_gate held (option_map (λ i. meaning i f.file f.pc) o) ≡ None
free_others held byte writable fetched_word f None is = absurd (false≢true is)
free_others held byte writable fetched_word f (Some i) is =
    no_call_held held (meaning i f.file f.pc) (sym (local-rows i f.file f.pc byte writable) ∙ is)

pub none_of_both : (a b : Option Why) → a ≡ None → b ≡ None → option_or a b ≡ None
none_of_both a b first second = rw (first, second) refl

local_free : (here : Here) (t : ℕ) → here.awaits ≡ None → runs here ≡ Some t → is_local_on here (runs here) ≡ true → refusal_exec here ≡ None
local_free here t apart busy is =
    let word = fetched here.setting.program.pages (here.file t).pc in
    let only = sym (ap (is_local_on here) busy) ∙ is in
    ap (refusal_exec_by here) busy
    ∙ in_no_barrier here.awaits _ apart
    ∙ none_of_both (instruction_gate (length (waiting_here here)) (next_effect here t) (is_some (next_fault here t))) (others_gate (is_held here t) (next_effect here t))
    (free_row (length (waiting_here here)) (reached here) (is_storable here) word (here.file t) (instruction_of word) only)
    (free_others (is_held here t) (reached here) (is_storable here) word (here.file t) (instruction_of word) only)

-- a test for no value
none_is : {A : Type 0} (o : Option A) → is_none o ≡ true → o ≡ None
none_is None none = refl
none_is (Some x) none = absurd (false≢true none)

-- the oldest store may enter memory where one waits, and the thread may leave where none does
pub drain_free : (stores : List Store) → ltb 0 (length stores) ≡ true → refusal_drain_of stores ≡ None
drain_free [] some = absurd (false≢true some)
drain_free (w ∷ stores) some = refl

pub none_waits : (stores : List Store) → ltb 0 (length stores) ≡ false → stores ≡ []
none_waits [] none = refl
none_waits (w ∷ stores) none = absurd (false≢true (sym none ∙ lt-ltb 0 (length (w ∷ stores)) (omega arith)))

leave_free : (stores : List Store) → eqb (length stores) 0 ≡ true → unless_waiting stores ≡ None
leave_free [] none = refl
leave_free (w ∷ stores) none = let bad = eqb-true (length (w ∷ stores)) 0 none in absurd (omega arith)

-- requests may be taken where some are pending and no store waits
pub take_free : (here : Here) → not (eqb here.requests 0) ≡ true → waiting_here here ≡ [] → refusal_of asked.Take here ≡ None
take_free here some none = go (eqb here.requests 0) some
  where
    go : (b : Bool) → not b ≡ true → cond b (Some NoRequest) (unless_waiting (waiting_here here)) ≡ None
    go true bad = absurd (false≢true bad)
    go false is = ap unless_waiting none

-- what an idle hart picks
first_free : (here : Here) (first : Option ℕ) → IsSound here.setting here.kernel → runs here ≡ None
    → first_for here.hart here.kernel.scheduling ≡ first
    → IsFree here (option_map plainly (option_map asked.Run (option_map thread first)))
first_free here None sound idle found = tt
first_free here (Some t) sound idle found = run_free here t sound idle found

free_when_idle : (here : Here) (some : Bool) → IsGoodHere here → runs here ≡ None → not (eqb here.requests 0) ≡ some
    → IsFree here (option_map plainly (cond some (Some asked.Take) (option_map asked.Run (first_ready here))))
free_when_idle here true good idle is = take_free here is (good.idle here.hart idle)
free_when_idle here false good idle is = first_free here (first_for here.hart here.kernel.scheduling) good.kernel idle refl

-- what a hart picks whose thread waits in a barrier
pub return_free : (awaits : Option ℕ) → is_all_taken awaits ≡ true → refusal_return awaits ≡ None
return_free None none = absurd (false≢true none)
return_free (Some left) all = rw all refl

free_in_barrier : (here : Here) (t : ℕ) (some all : Bool) → waiting_here here ≡ [] → runs here ≡ Some t
    → not (eqb here.requests 0) ≡ some → is_all_taken here.awaits ≡ all
    → IsFree here (option_map plainly (cond some (Some asked.Take) (cond all (Some asked.Done) None)))
free_in_barrier here t true all empty busy is over = take_free here is empty
free_in_barrier here t false true empty busy is over = ap (refusal_done_by here) busy ∙ return_free here.awaits over
free_in_barrier here t false false empty busy is over = tt

-- what a hart picks at which requests are pending
free_when_requested : (here : Here) (some : Bool) → not (eqb here.requests 0) ≡ true → ltb 0 (length (waiting_here here)) ≡ some
    → IsFree here (Some (plainly (cond some asked.Drain asked.Take)))
free_when_requested here true requested is = drain_free (waiting_here here) is
free_when_requested here false requested is = take_free here requested (none_waits (waiting_here here) is)

-- what a hart picks that is held up
free_when_held_up : (here : Here) (some : Bool) → ltb 0 (length (waiting_here here)) ≡ some
    → IsFree here (option_map plainly (cond some (Some asked.Drain) None))
free_when_held_up here true is = drain_free (waiting_here here) is
free_when_held_up here false is = tt

-- what a word picks
free_by_word : (here : Here) (t r : ℕ) (seen : Sight) → here.awaits ≡ None → runs here ≡ Some t → refusal_exec here ≡ None
    → seen.stores ≡ length (waiting_here here) → IsFree here (Some (by_word r seen))
free_by_word here t r seen apart busy free same =
    cond_both (leaves_by r seen) (plainly asked.Preempt) (cond (drains_by r seen) (plainly asked.Drain) (record { choice = asked.Exec; credit = credit_of r }))
    (λ p. IsFree here (Some p))
    (λ leaves.
    ap (refusal_preempt_by here) busy
    ∙ in_no_barrier here.awaits (unless_waiting (waiting_here here)) apart
    ∙ leave_free (waiting_here here) (rw (← same) (no_store leaves)))
    (λ stays. cond_both (drains_by r seen) (plainly asked.Drain) (record { choice = asked.Exec; credit = credit_of r }) (λ p. IsFree here (Some p))
    (λ drains. drain_free (waiting_here here) (rw (← same) (and_parts (eqb (r % 4) 1) (has_stores seen) drains).1))
    (λ executes. free))
  where
    no_store : leaves_by r seen ≡ true → eqb seen.stores 0 ≡ true
    no_store leaves =
        let front = (and_parts (eqb (r % 8) 0 && leb 16 seen.ran && eqb seen.stores 0) (is_some seen.first_ready) leaves).0 in
        (and_parts (eqb (r % 8) 0 && leb 16 seen.ran) (eqb seen.stores 0) front).1

-- what a hart picks where a signal is deliverable to its thread
free_when_deliverable : (here : Here) (t : ℕ) (some : Bool) → here.awaits ≡ None → runs here ≡ Some t → is_deliverable_on here (runs here) ≡ true
    → ltb 0 (length (waiting_here here)) ≡ some
    → IsFree here (Some (plainly (cond some asked.Drain asked.Signal)))
free_when_deliverable here t true apart busy deliverable is = drain_free (waiting_here here) is
free_when_deliverable here t false apart busy deliverable is = signal_free here t apart busy deliverable (none_waits (waiting_here here) is)

-- the cases by what is seen of a hart, from the last ones on
abbrev unrequested_case : Sight → Case
unrequested_case seen =
    cond seen.deliverable (Settled (Some (plainly (emptied_before seen asked.Signal))))
    (cond seen.exec_enabled Open (Settled (option_map plainly (when_held_up seen))))

abbrev uncredited_case : Sight → Case
uncredited_case seen = cond seen.requested (Settled (Some (plainly (emptied_before seen asked.Take)))) (unrequested_case seen)

abbrev apart_case : Sight → Case
apart_case seen = cond (has_credit seen) (Settled (Some (on_credit seen))) (uncredited_case seen)

abbrev busy_case : Bool → Sight → Case
busy_case in_barrier seen = cond in_barrier (Settled (option_map plainly (when_in_barrier seen))) (apart_case seen)

abbrev case_by : Bool → Sight → Case
case_by idle seen = cond idle (Settled (option_map plainly (when_idle seen))) (busy_case seen.in_barrier seen)

-- whatever the word and the credit are
free_when_unrequested : (here : Here) (t since credit r : ℕ) → here.awaits ≡ None → runs here ≡ Some t
    → IsFree here (pick_in (unrequested_case (sight_in here since credit)) r (sight_in here since credit))
free_when_unrequested here t since credit r apart busy =
    let seen = sight_in here since credit in
    let after : Case = cond seen.exec_enabled Open (Settled (option_map plainly (when_held_up seen))) in
    cond_both seen.deliverable (Settled (Some (plainly (emptied_before seen asked.Signal)))) after
    (λ c. IsFree here (pick_in c r seen))
    (λ deliverable. free_when_deliverable here t (has_stores seen) apart busy deliverable refl)
    (λ none. cond_both seen.exec_enabled Open (Settled (option_map plainly (when_held_up seen)))
    (λ c. IsFree here (pick_in c r seen))
    (λ enabled. free_by_word here t r seen apart busy (none_is (refusal_exec here) enabled) refl)
    (λ held. free_when_held_up here (has_stores seen) refl))

free_when_apart : (here : Here) (t since credit r : ℕ) → here.awaits ≡ None → runs here ≡ Some t
    → IsFree here (pick_in (apart_case (sight_in here since credit)) r (sight_in here since credit))
free_when_apart here t since credit r apart busy =
    let seen = sight_in here since credit in
    cond_both (has_credit seen) (Settled (Some (on_credit seen))) (uncredited_case seen) (λ c. IsFree here (pick_in c r seen))
    (λ credited. local_free here t apart busy (and_parts (ltb 0 credit) seen.«local» credited).1)
    (λ uncredited. cond_both seen.requested (Settled (Some (plainly (emptied_before seen asked.Take)))) (unrequested_case seen)
    (λ c. IsFree here (pick_in c r seen))
    (λ requested. free_when_requested here (has_stores seen) requested refl)
    (λ none. free_when_unrequested here t since credit r apart busy))

free_when_busy : (here : Here) (t since credit r : ℕ) (awaits : Option ℕ) → IsGoodHere here → runs here ≡ Some t → here.awaits ≡ awaits
    → IsFree here (pick_in (busy_case (is_some awaits) (sight_in here since credit)) r (sight_in here since credit))
free_when_busy here t since credit r None good busy apart = free_when_apart here t since credit r apart busy
free_when_busy here t since credit r (Some left) good busy waits =
    free_in_barrier here t (not (eqb here.requests 0)) (is_all_taken here.awaits) (good.empty left waits) busy refl refl

free_by : (here : Here) (since credit r : ℕ) (running : Option ℕ) → IsGoodHere here
    → runs here ≡ running
    → IsFree here (pick_in (case_by (is_none running) (sight_in here since credit)) r (sight_in here since credit))
free_by here since credit r None good idle = free_when_idle here (not (eqb here.requests 0)) good idle refl
free_by here since credit r (Some t) good busy = free_when_busy here t since credit r here.awaits good busy refl

pick_is_free : (here : Here) (since credit r : ℕ) → IsGoodHere here
    → IsFree here (pick (sight_in here since credit) r)
unfolding pick
pick_is_free here since credit r good = free_by here since credit r (runs here) good refl

-- so what is chosen isn't refused
free_choice : (here : Here) (o : Option Pick) (c : Choice) → IsFree here o
    → option_map (λ (p : Pick). p.choice) o ≡ Some c → refusal_of c here ≡ None
free_choice here None c free is = absurd cc
free_choice here (Some p) c free is =
    let it : p.choice ≡ c = cc in
    subst (λ x. refusal_of x here ≡ None) it free

-- a run that hasn't ended goes on, and its log has room
open_parts : (s : Setting) (before : History) (o : Option End) → over_at s before ≡ o
    → (is_some o || leb s.limits.steps (length before)) ≡ false → IsOpen s before
open_parts s before (Some e) at is = absurd (false≢true (sym is))
open_parts s before None at is = record { goes = at; room = leb-false s.limits.steps (length before) is }

goes_on_where : (s : Setting) (before : History) → has_ended s before ≡ false → IsOpen s before
unfolding has_ended
goes_on_where s before is = open_parts s before (over_at s before) refl is

-- a place where a hart has a choice
record HasChoice (s : Setting) (seed h : ℕ) (before : History) (c : Choice) : Type 0 where
  pub goes : has_ended s before ≡ false
  pub lt : h < s.limits.harts
  pub picked : option_map (λ (p : Pick). p.choice) (pick_at s seed h before) ≡ Some c

choice_by : (s : Setting) (seed h : ℕ) (before : History) (c : Choice) (over known : Bool) → has_ended s before ≡ over
    → ltb h s.limits.harts ≡ known
    → cond over None (cond known (option_map (λ (p : Pick). p.choice) (pick_at s seed h before)) None) ≡ Some c
    → HasChoice s seed h before c
choice_by s seed h before c false true at lt is = record { goes = at; lt = ltb-true h s.limits.harts lt; picked = is }
choice_by s seed h before c over known at lt is = absurd cc

has_choice : (s : Setting) (seed h : ℕ) (before : History) (c : Choice) → choice_at s seed h before ≡ Some c
    → HasChoice s seed h before c
unfolding choice_at
has_choice s seed h before c is = choice_by s seed h before c (has_ended s before) (ltb h s.limits.harts) refl refl is

-- the choice is allowed
pub choice_is_allowed : (s : Setting) (seed : ℕ) (log : List Entry) (h : ℕ) (c : Choice) → IsAllowedLog s log
    → choice_at s seed h (history s log) ≡ Some c
    → refusal_of c (here_in_history s (history s log) h) ≡ None
choice_is_allowed s seed log h c run chosen =
    let before = history s log in
    let l = luck s seed h before in
    let has = has_choice s seed h before c chosen in
    let good : IsGoodHere (here_in_history s before h) = good_here s (plain_of s before) h has.lt (settled s before run).good in
    free_choice (here_in_history s before h) (pick_at s seed h before) c
    (pick_is_free (here_in_history s before h) (ran h before) l.credit (word (after_words l.drawn (first_generator seed h))) good)
    has.picked

pub choice_decides : (s : Setting) (seed : ℕ) (log : List Entry) (h : ℕ) (c : Choice) → IsAllowedLog s log
    → choice_at s seed h (history s log) ≡ Some c
    → decide s (history s log) h c ≡ Ok (entry_in c (here_in_history s (history s log) h))
choice_decides s seed log h c run chosen =
    let has = has_choice s seed h (history s log) c chosen in
    decide-open s (history s log) h c (goes_on_where s (history s log) has.goes) has.lt
    ∙ ap (unless (entry_in c (here_in_history s (history s log) h))) (choice_is_allowed s seed log h c run chosen)

-- some hart has a choice

-- where a hart at which no request is pending has one: an idle hart where a ready thread may run there; one whose thread waits in a
-- barrier where no hart is left that has to take its request; another one where a store waits, if the thread may not execute
record IsGoing (here : Here) : Type 0 where
  idle : here.requests ≡ 0 → runs here ≡ None → is_some (first_for here.hart here.kernel.scheduling) ≡ true
  in_barrier : (left : ℕ) → here.requests ≡ 0 → here.awaits ≡ Some left → left ≡ 0
  held : (t : ℕ) (why : Why) → here.requests ≡ 0 → here.awaits ≡ None → runs here ≡ Some t → refusal_exec here ≡ Some why
      → ltb 0 (length (waiting_here here)) ≡ true

held_up_picks : (stores : List Store) → ltb 0 (length stores) ≡ true
    → is_some (option_map plainly (cond (ltb 0 (length stores)) (Some asked.Drain) None)) ≡ true
held_up_picks [] some = absurd cc
held_up_picks (w ∷ stores) some = rw some refl

-- no request is pending
none_asks : (requests : ℕ) → not (eqb requests 0) ≡ false → requests ≡ 0
none_asks requests is = eqb-true requests 0 (not-false (eqb requests 0) is)

busy_by : (here : Here) (t since credit r : ℕ) (why : Option Why) → IsGoing here → here.requests ≡ 0 → here.awaits ≡ None
    → runs here ≡ Some t → refusal_exec here ≡ why
    → is_some (pick_in (cond (is_none why) Open (Settled (option_map plainly (when_held_up (sight_in here since credit))))) r (sight_in here since credit)) ≡ true
busy_by here t since credit r None going none apart busy at = refl
busy_by here t since credit r (Some why) going none apart busy at = held_up_picks (waiting_here here) (going.held t why none apart busy at)

picks_when_unrequested : (here : Here) (t since credit r : ℕ) → IsGoing here → here.requests ≡ 0 → here.awaits ≡ None → runs here ≡ Some t
    → is_some (pick_in (unrequested_case (sight_in here since credit)) r (sight_in here since credit)) ≡ true
picks_when_unrequested here t since credit r going none apart busy =
    let seen = sight_in here since credit in
    let after : Case = cond seen.exec_enabled Open (Settled (option_map plainly (when_held_up seen))) in
    cond_both seen.deliverable (Settled (Some (plainly (emptied_before seen asked.Signal)))) after
    (λ c. is_some (pick_in c r seen) ≡ true)
    (λ deliverable. refl) (λ masked. busy_by here t since credit r (refusal_exec here) going none apart busy refl)

picks_when_apart : (here : Here) (t since credit r : ℕ) → IsGoing here → here.awaits ≡ None → runs here ≡ Some t
    → is_some (pick_in (apart_case (sight_in here since credit)) r (sight_in here since credit)) ≡ true
picks_when_apart here t since credit r going apart busy =
    let seen = sight_in here since credit in
    cond_both (has_credit seen) (Settled (Some (on_credit seen))) (uncredited_case seen) (λ c. is_some (pick_in c r seen) ≡ true)
    (λ credited. refl)
    (λ uncredited. cond_both seen.requested (Settled (Some (plainly (emptied_before seen asked.Take)))) (unrequested_case seen)
    (λ c. is_some (pick_in c r seen) ≡ true)
    (λ requested. refl)
    (λ none. picks_when_unrequested here t since credit r going (none_asks here.requests none) apart busy))

picks_in_barrier : (here : Here) (left : ℕ) (some : Bool) → IsGoing here → here.awaits ≡ Some left → not (eqb here.requests 0) ≡ some
    → is_some (option_map plainly (cond some (Some asked.Take) (cond (eqb left 0) (Some asked.Done) None))) ≡ true
picks_in_barrier here left true going waits is = refl
picks_in_barrier here left false going waits is =
    rw (eq-eqb left 0 (going.in_barrier left (none_asks here.requests is) waits)) refl

picks_when_busy : (here : Here) (t since credit r : ℕ) (awaits : Option ℕ) → IsGoing here → runs here ≡ Some t → here.awaits ≡ awaits
    → is_some (pick_in (busy_case (is_some awaits) (sight_in here since credit)) r (sight_in here since credit)) ≡ true
picks_when_busy here t since credit r None going busy apart = picks_when_apart here t since credit r going apart busy
picks_when_busy here t since credit r (Some left) going busy waits =
    let some = not (eqb here.requests 0) in
    ap (λ (o : Option ℕ). is_some (option_map plainly (cond some (Some asked.Take) (cond (is_all_taken o) (Some asked.Done) None)))) waits
    ∙ picks_in_barrier here left some going waits refl

-- an idle hart has one where a ready thread may run there
picks_first : (first : Option ℕ) → is_some first ≡ true
    → is_some (option_map plainly (option_map asked.Run (option_map thread first))) ≡ true
picks_first None some = absurd (false≢true some)
picks_first (Some t) some = refl

picks_when_idle : (here : Here) (some : Bool) → IsGoing here → runs here ≡ None → not (eqb here.requests 0) ≡ some
    → is_some (option_map plainly (cond some (Some asked.Take) (option_map asked.Run (first_ready here)))) ≡ true
picks_when_idle here true going idle is = refl
picks_when_idle here false going idle is = picks_first (first_for here.hart here.kernel.scheduling) (going.idle (none_asks here.requests is) idle)

picks_by : (here : Here) (since credit r : ℕ) (running : Option ℕ) → IsGoing here → runs here ≡ running
    → is_some (pick_in (case_by (is_none running) (sight_in here since credit)) r (sight_in here since credit)) ≡ true
picks_by here since credit r None going at = picks_when_idle here (not (eqb here.requests 0)) going at refl
picks_by here since credit r (Some t) going at = picks_when_busy here t since credit r here.awaits going at refl

something_picked : (here : Here) (since credit r : ℕ) → IsGoing here → is_some (pick (sight_in here since credit) r) ≡ true
unfolding pick
something_picked here since credit r going = picks_by here since credit r (runs here) going refl

-- a hart that a thread runs on, or that a ready thread may run on
record GoesOnAt (s : Setting) (k : Kernel) : Type 0 where
  pub hart : ℕ
  pub lt : hart < s.limits.harts
  pub first : running_on hart k.threads ≡ None → is_some (first_for hart k.scheduling) ≡ true

goes_on_by : (s : Setting) (k : Kernel) (t : ℕ) (st : ThreadState) → IsSound s k → 0 < s.limits.harts
    → is_live t k.threads ≡ true
    → state_of t k.threads ≡ Some st → not (is_waiting_state st) ≡ true → GoesOnAt s k
goes_on_by s k t state.Ready sound harts live is goes =
    let at = sound.allowed harts t live in
    let ready : is_ready t k.threads ≡ true = ap (λ o. option_map_or is_ready_state o false) is in
    let once : times t k.scheduling.order ≡ 1 = sound.tables.ready t ∙ ap (λ b. cond b 1 0) ready in
    record {
      hart = at.0;
      lt = at.1;
      first = λ idle. found_where (λ u. has_hart (affinity_of u k.scheduling) at.0) t k.scheduling.order (omega arith) at.2;
    }
goes_on_by s k t (state.Running h) sound harts live is goes =
    let there : running_on h.0 k.threads ≡ Some t = running_there s.limits.harts h.0 t k.threads k.scheduling sound.tables is in
    record { hart = h.0; lt = sound.tables.below t h is; first = λ idle. absurd (false≢true (ap is_some (sym idle ∙ there))) }
goes_on_by s k t (state.Waiting at) sound harts live is goes = absurd (false≢true goes)

goes_on_of : (s : Setting) (k : Kernel) (o : Option Thread) → IsSound s k → 0 < s.limits.harts
    → find goes_on k.threads.live ≡ o → is_some o ≡ true → GoesOnAt s k
goes_on_of s k None sound harts found some = absurd (false≢true some)
goes_on_of s k (Some th) sound harts found some =
    let there : thread_of th.tid k.threads ≡ Some th = found_sorted goes_on k.threads.live th (sorted_from_strictly_increasing (numbers k.threads.live) sound.tables.threads.rising) found in
    goes_on_by s k th.tid th.state sound harts (ap is_some there) (ap (λ (o : Option Thread). option_map (λ th. th.state) o) there) (found_passes goes_on k.threads.live th found)

goes_on_at : (s : Setting) (before : History) → IsRunHistory s before → 0 < s.limits.harts → IsOpen s before
    → GoesOnAt s (kernel s before)
goes_on_at s before run harts x =
    let goes = ended_parts (ended before) (is_stuck (kernel s before).threads) x.goes in
    let k = kernel s before in
    goes_on_of s k (find goes_on k.threads.live) (settled s before run).good.kernel harts refl
    (found_where_any goes_on k.threads.live (goes_somewhere k.threads goes.1 (some_live s before run goes.0)))

-- where something is picked, an entry comes next
entry_of : (here : Here) (o : Option Pick) → is_some o ≡ true
    → is_some (option_map (λ c. entry_in c here) (option_map (λ (p : Pick). p.choice) o)) ≡ true
entry_of here None some = absurd (false≢true some)
entry_of here (Some p) some = refl

next_where : (s : Setting) (seed h : ℕ) (before : History) → has_ended s before ≡ false → h < s.limits.harts
    → is_some (pick_at s seed h before) ≡ true → is_some (next_entry s seed h before) ≡ true
unfolding next_entry choice_at
next_where s seed h before goes lt some = rw (goes, lt-ltb h s.limits.harts lt) (entry_of (here_in_history s before h) (pick_at s seed h before) some)

-- a hart on which a store waits, if there is one
find_waiting : (stores : ℕ → List Store) (n : ℕ)
    → ((k : ℕ) × (k < n) × (ltb 0 (length (stores k)) ≡ true)) ⊎ ((k : ℕ) → k < n → stores k ≡ [])
find_waiting stores zero = inr (λ k lt. absurd (omega arith))
find_waiting stores (suc n) = go (stores n) refl (find_waiting stores n)
  where
    go : (ws : List Store) → stores n ≡ ws → ((k : ℕ) × (k < n) × (ltb 0 (length (stores k)) ≡ true)) ⊎ ((k : ℕ) → k < n → stores k ≡ [])
        → ((k : ℕ) × (k < suc n) × (ltb 0 (length (stores k)) ≡ true)) ⊎ ((k : ℕ) → k < suc n → stores k ≡ [])
    go (w ∷ ws) is rest = inl (n, omega arith, ap (λ (xs : List Store). ltb 0 (length xs)) is ∙ lt-ltb 0 (length (w ∷ ws)) (omega arith))
    go [] is (inl found) = let lt = found.1 in inl (found.0, omega arith, found.2)
    go [] is (inr none) = inr (λ k lt. elim (cases_eq k n) [ inl same ↦ ap stores same ∙ is | inr two ↦ none k (omega arith) ])

-- so some hart has a choice: one on which a store waits; where none waits, one that goes on, or else one for which its thread waits in
-- a barrier, since the request is pending there
record Picks (s : Setting) (before : History) : Type 0 where
  pub hart : ℕ
  pub lt : hart < s.limits.harts
  pub going : IsGoing (here_in_history s before hart)

stores_wait : (stores : List Store) → stores ≡ [] → ltb 0 (length stores) ≡ true → ⊥
stores_wait stores none some = false≢true (sym (ap (λ (ws : List Store). ltb 0 (length ws)) none) ∙ some)

-- a hart at which a request is pending
going_where_asked : (here : Here) → here.requests ≢ 0 → IsGoing here
going_where_asked here asks = record {
  idle = λ none. absurd (asks none);
  in_barrier = λ left none. absurd (asks none);
  held = λ t why none. absurd (asks none);
}

-- where no store waits, a hart that goes on and whose thread waits for no hart in a barrier
going_where_none_waits : (s : Setting) (before : History) (at : GoesOnAt s (kernel s before)) → ((k : ℕ) → k < s.limits.harts → waiting k before ≡ [])
    → ((left : ℕ) → awaits at.hart before ≡ Some left → left ≡ 0) → Picks s before
going_where_none_waits s before at none over = record {
  hart = at.hart;
  lt = at.lt;
  going = record {
    idle = λ quiet. at.first;
    in_barrier = λ left quiet waits. over left waits;
    held = λ t why quiet apart busy refused.
        let here = here_in_history s before at.hart in
        let free = allowed_where_none_waits here t apart (none at.hart at.lt) none in
        let bad : None ≡ Some why = sym free ∙ sym (ap (refusal_exec_by here) busy) ∙ refused in
        absurd cc;
  };
}

picks_in : (s : Setting) (before : History) (at : GoesOnAt s (kernel s before)) (o : Option ℕ) → IsRunHistory s before
    → ((k : ℕ) → k < s.limits.harts → waiting k before ≡ []) → awaits at.hart before ≡ o → Picks s before
picks_in s before at None run none waits = going_where_none_waits s before at none (λ left is. let bad : None ≡ Some left = sym waits ∙ is in absurd cc)
picks_in s before at (Some left) run none waits = elim (cases_eq left 0) [
  | inl over ↦ going_where_none_waits s before at none
      (λ other is. let both : Some left ≡ Some other = sym waits ∙ is in let same : left ≡ other = cc in sym same ∙ over)
  | inr some ↦
      let awaited = (settled s before run).good.awaited in
      let found = some_hart left some in
      let pending = awaited.pending at.hart left found.0 waits found.1 in
      record {
        hart = found.0;
        lt = awaited.below at.hart left found.0 waits found.1;
        going = going_where_asked (here_in_history s before found.0) (some_in (requests found.0 before) at.hart pending);
      }
]

picks_at : (s : Setting) (before : History) → IsRunHistory s before → GoesOnAt s (kernel s before)
    → ((k : ℕ) × (k < s.limits.harts) × (ltb 0 (length (waiting k before)) ≡ true)) ⊎ ((k : ℕ) → k < s.limits.harts → waiting k before ≡ [])
    → Picks s before
picks_at s before run at (inl found) =
    let good = (settled s before run).good in
    record {
      hart = found.0;
      lt = found.1;
      going = record {
        idle = λ quiet idle. absurd (stores_wait (waiting found.0 before) (good.idle found.0 idle) found.2);
        in_barrier = λ left quiet waits. absurd (stores_wait (waiting found.0 before) (good.empty found.0 left waits) found.2);
        held = λ t why quiet apart busy refused. found.2;
      };
    }
picks_at s before run at (inr none) = picks_in s before at (awaits at.hart before) run none refl

pub some_hart_goes_on : (s : Setting) (seed : ℕ) (log : List Entry) → IsAllowedLog s log → 0 < s.limits.harts
    → has_ended s (history s log) ≡ false
    → (h : ℕ) × (h < s.limits.harts) × (is_some (next_entry s seed h (history s log)) ≡ true)
some_hart_goes_on s seed log run harts goes =
    let before = history s log in
    let at = picks_at s before run (goes_on_at s before run harts (goes_on_where s before goes)) (find_waiting (λ k. waiting k before) s.limits.harts) in
    let l = luck s seed at.hart before in (
      at.hart,
      at.lt,
      next_where s seed at.hart before goes at.lt (something_picked (here_in_history s before at.hart) (ran at.hart before) l.credit
          (word (after_words l.drawn (first_generator seed at.hart))) at.going),
    )

-- logs of choices

-- the luck of a hart after one more entry
pub luck_of_other : (s : Setting) (seed : ℕ) (log : List Entry) (h : ℕ) (e : Entry) → e.hart.0 ≢ h
    → luck s seed h (history s (log ++ e ∷ [])) ≡ luck s seed h (history s log)
luck_of_other s seed log h e other =
    let before = history s log in
    ap (luck s seed h) (history-append s log e)
    ∙ cond-false (eqb e.hart.0 h) (luck_after (choice_of e) (sight_with s h before (luck s seed h before)) (pick_with s seed h before (luck s seed h before)) (luck s seed h before)) (luck s seed h before)
    (ne_eqb e.hart.0 h other)

pub luck_of_own : (s : Setting) (seed : ℕ) (log : List Entry) (h : ℕ) (e : Entry) → e.hart.0 ≡ h
    → luck s seed h (history s (log ++ e ∷ []))
    ≡ luck_after (choice_of e) (sight_with s h (history s log) (luck s seed h (history s log))) (pick_with s seed h (history s log) (luck s seed h (history s log))) (luck s seed h (history s log))
luck_of_own s seed log h e own =
    let before = history s log in
    ap (luck s seed h) (history-append s log e)
    ∙ cond-true (eqb e.hart.0 h) (luck_after (choice_of e) (sight_with s h before (luck s seed h before)) (pick_with s seed h before (luck s seed h before)) (luck s seed h before)) (luck s seed h before)
    (eq-eqb e.hart.0 h own)

-- whether each entry is the choice of its hart, with one more entry
pub all_chosen_next : (s : Setting) (seed : ℕ) (log : List Entry) (e : Entry)
    → all_chosen s seed (history s (log ++ e ∷ [])) ≡ (all_chosen s seed (history s log) && is_choice (choice_at s seed e.hart.0 (history s log)) (choice_of e))
all_chosen_next s seed log e = ap (all_chosen s seed) (history-append s log e)

-- whether two choices are one
pub is_choice_same : (c : Choice) → is_choice (Some c) c ≡ true
is_choice_same c = eq-eqb (number_of_choice c) (number_of_choice c) refl

pub chosen_start : (s : Setting) (seed : ℕ) → IsChosen s seed []
unfolding IsChosen
chosen_start s seed = ap (all_chosen s seed) (history-nil s)

-- the choice of a next entry
next_of : (s : Setting) (h : ℕ) (before : History) (o : Option Choice) (e : Entry)
    → option_map (λ c. entry_in c (here_in_history s before h)) o ≡ Some e
    → (c : Choice) × (o ≡ Some c) × (e ≡ entry_in c (here_in_history s before h))
next_of s h before None e is = absurd cc
next_of s h before (Some c) e is = (c, refl, cc)

choice_of_next : (s : Setting) (seed h : ℕ) (before : History) (e : Entry) → next_entry s seed h before ≡ Some e
    → (c : Choice) × (choice_at s seed h before ≡ Some c) × (e ≡ entry_in c (here_in_history s before h))
unfolding next_entry
choice_of_next s seed h before e is = next_of s h before (choice_at s seed h before) e is

chosen_next : (s : Setting) (seed : ℕ) (log : List Entry) (e : Entry) → IsChosen s seed log
    → choice_at s seed e.hart.0 (history s log) ≡ Some (choice_of e) → IsChosen s seed (log ++ e ∷ [])
unfolding IsChosen
chosen_next s seed log e chosen is = all_chosen_next s seed log e ∙ rw (chosen, is) (is_choice_same (choice_of e))

pub chosen_more : (s : Setting) (seed : ℕ) (log : List Entry) (h : ℕ) (e : Entry) → IsAllowedLog s log → IsChosen s seed log
    → next_entry s seed h (history s log) ≡ Some e
    → IsAllowedLog s (log ++ e ∷ []) × IsChosen s seed (log ++ e ∷ []) × (e.hart.0 ≡ h)
chosen_more s seed log h e run chosen next =
    let at = choice_of_next s seed h (history s log) e next in
    let made : decide s (history s log) h at.0 ≡ Ok e = choice_decides s seed log h at.0 run at.1 ∙ ap Ok (sym at.2) in
    let own = decided_is s (history s log) h at.0 e made in
    let it : choice_at s seed e.hart.0 (history s log) ≡ Some (choice_of e) = ap (λ k. choice_at s seed k (history s log)) own.0 ∙ at.1 ∙ ap Some (sym own.1) in
    (IsAllowedLog-append s log h at.0 e run made, chosen_next s seed log e chosen it, own.0)

chosen_before : (s : Setting) (seed : ℕ) (rest : List Entry) (before : History)
    → all_chosen s seed (fold (λ b e. event s b e ∷ b) before rest) ≡ true → all_chosen s seed before ≡ true
chosen_before s seed [] before chosen = chosen
chosen_before s seed (e ∷ rest) before chosen =
    (and_parts (all_chosen s seed before) (is_choice (choice_at s seed e.hart.0 before) (choice_of e)) (chosen_before s seed rest (event s before e ∷ before) chosen)).0

pub chosen_shorter : (s : Setting) (seed : ℕ) (log more : List Entry) → IsChosen s seed (log ++ more) → IsChosen s seed log
unfolding IsChosen history
chosen_shorter s seed log more chosen =
    chosen_before s seed more (history s log) (sym (ap (all_chosen s seed) (fold-append (λ before e. event s before e ∷ before) [] log more)) ∙ chosen)

-- where the run has ended no hart makes an entry
pub next_is_none : (s : Setting) (seed : ℕ) (log : List Entry) (h : ℕ) → has_ended s (history s log) ≡ true
    → next_entry s seed h (history s log) ≡ None
unfolding next_entry choice_at
next_is_none s seed log h over = rw over refl
