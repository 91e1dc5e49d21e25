-- From the place before the last event of a sequence on: what its thread keeps, and that bytes stay which nothing touched since.
use Rattle.block_model.proofs.Common.{◌≡◌, ◌≢◌, ℕ, ◌+◌, ◌-◌, ◌≤◌, ◌<◌, ◌⊎◌, inl, inr, List, [], ◌∷◌, length, refl, sym, ap, ◌∙◌, subst, arith, Bool, true, false, not, cond, ◌&&◌, ◌||◌, eqb, Option, Some, is_none, AllByRecursion, Bytes, Done, Entry, Event, Here, History, IsRunHistory, Kernel, Kind, PAGE_SIZE, Saved, Sequence, Setting, Store, area_of, before_last, choice_with, done, done_drain_of, done_of, done_take, done_take_by, eqb-false, false≢true, file, file_among, here_in_history, is_inside_at, is_instruction, is_of_hart, is_taken_in, kernel, list_any, ne_eqb, only_took, or_parts, running, running_on, runs, sequence_on, touched_in, touches, view, waiting_here}
use Rattle.mach_types.specs.declared.events.Kind.TheVariants as kind
use Rattle.block_model.proofs.Invariants.Calls.Conditions.{runs_apart}
use Rattle.block_model.proofs.NamedSequences.{Agree}
use Rattle.block_model.proofs.ReadyFiles.{area_stays}
use Rattle.block_model.proofs.Runs.{fit_at, settled}
use Rattle.block_model.proofs.Sequences.{runs_throughout, taken_keeps, Begins, Elsewhere, IsOf, Own, SequenceStep, TakesIn, is_reached, is_taken, by_sequence}
use Rattle.block_model.proofs.SignalTables.{OnlySignals}
use Rattle.block_model.proofs.TouchedBytes.{view_stays}

-- WHAT THE EVENTS OF A SEQUENCE LEAVE

-- a store that enters memory sets no file
drain_sets_none : (here : Here) (ws : List Store) → (done_drain_of here ws).files ≡ []
drain_sets_none here [] = refl
drain_sets_none here (w ∷ ws) = refl

-- a take that interrupts nothing does no more than take
only_takes : (here : Here) (restart : Bool) (r : Option ℕ) → is_none (done_take_by here restart r).interrupted ≡ true
    → done_take_by here restart r ≡ only_took here
only_takes here true (Some t) none = absurd (false≢true none)
only_takes here b o none = refl

pub take_taken : (here : Here) → is_taken_in kind.Take (done_take here).interrupted ≡ true → done_take here ≡ only_took here
take_taken here taken = only_takes here here.restart (runs here) taken

-- an event is taken in
abbrev pub IsTakenIn : Kind → Entry → Here → Type 0
IsTakenIn k x here = is_taken_in k (done_of (choice_with k x) here).interrupted ≡ true

none_set : (k : Kind) (x : Entry) (here : Here) → IsTakenIn k x here → is_instruction k ≡ false → (done_of (choice_with k x) here).files ≡ []
none_set kind.Exec x here taken no_instruction = absurd (false≢true (sym no_instruction))
none_set kind.Drain x here taken no_instruction = drain_sets_none here (waiting_here here)
none_set kind.Take x here taken no_instruction = ap (λ (d : Done). d.files) (take_taken here taken)
none_set k x here taken no_instruction = absurd (false≢true taken)

module _ (s : Setting) (e : Event) (before : History) (run : IsRunHistory s (e ∷ before)) (taken : is_taken_in e.entry.kind e.done.interrupted ≡ true) where
  kept_record : is_inside_at s e.entry.hart.0 before ≡ true → OnlySignals (kernel s before) (kernel s (e ∷ before))
  unfolding done
  kept_record inside =
      subst (λ (x : Event). OnlySignals (kernel s before) x.done.kernel) (sym run.2)
      (taken_keeps e.entry.kind e.entry e.done.interrupted (here_in_history s before e.entry.hart.0) taken inside)

  kept_file : (t : ℕ) → is_instruction e.entry.kind ≡ false → file s t (e ∷ before) ≡ file s t before
  unfolding done
  kept_file t no_instruction =
      let here = here_in_history s before e.entry.hart.0 in
      let done : e.done ≡ done_of (choice_with e.entry.kind e.entry) here = ap (λ (x : Event). x.done) run.2 in
      let taken_in : IsTakenIn e.entry.kind e.entry here = subst (λ (d : Done). is_taken_in e.entry.kind d.interrupted ≡ true) done taken in
      let none = ap (λ (d : Done). d.files) done ∙ none_set e.entry.kind e.entry here taken_in no_instruction in
      ap (λ (ps : List (ℕ × Saved)). file_among ps t (file s t before)) none

-- SINCE ITS LAST EVENT

-- a place at which a sequence is the newest of its hart: its thread was inside and ran before its last event; that was its last
-- instruction, or set no file; and since then the thread keeps its file and its area
pub record IsSince (s : Setting) (before : History) (h : ℕ) (q : Sequence) : Type 0 where
  pub inside : is_inside_at s h (before_last q) ≡ true
  pub runs : running s h (before_last q) ≡ Some q.thread
  pub longer : length (before_last q) < length before
  pub last : (q.last_instruction ≡ before_last q) ⊎ (file s q.thread q.reached ≡ file s q.thread (before_last q))
  pub same_file : file s q.thread before ≡ file s q.thread q.reached
  pub same_area : area_of q.thread (kernel s before).areas ≡ area_of q.thread (kernel s (before_last q)).areas

-- the place before the last event, where it is the newest
last_place : (e : Event) (before : History) (q : Sequence) → q.reached ≡ e ∷ before → before_last q ≡ before
last_place e before q is = ap (λ (r : History). elim r [ [] ↦ [] | e ∷ before ↦ before ]) is

module _ (s : Setting) (e : Event) (before : History) (h : ℕ) (q : Sequence) (run : IsRunHistory s (e ∷ before)) where
  -- its last event was its last instruction, or no instruction
  last_is : (b : Bool) → is_instruction e.entry.kind ≡ b → (r : Sequence) → (cond b before r.last_instruction ≡ before) ⊎ (is_instruction e.entry.kind ≡ false)
  last_is true is r = inl refl
  last_is false is r = inr is

  last_of : {r : Sequence} → IsOf s e before h r → (r.last_instruction ≡ before) ⊎ (is_instruction e.entry.kind ≡ false)
  last_of (Begins none first) = inl refl
  last_of (TakesIn r was taken) = last_is (is_instruction e.entry.kind) refl r

  since_own : sequence_on s h (e ∷ before) ≡ Some q → e.entry.hart.0 ≡ h → is_inside_at s h before ≡ true → IsOf s e before h q
      → IsSince s (e ∷ before) h q
  since_own is own stood its =
      let taken = is_taken s e before h its in
      let reached = is_reached s e before h its in
      let at = last_place e before q reached in
      let inside = ap (λ k. is_inside_at s k before) own ∙ stood in
      let kept = kept_record s e before run taken inside in
      let now = (runs_throughout s (e ∷ before) h q run is).now in
      record {
        inside = ap (is_inside_at s h) at ∙ stood;
        runs = ap (running s h) at ∙ sym (ap (λ (k : Kernel). running_on h k.threads) kept) ∙ now;
        longer = subst (λ (b : History). length b < length (e ∷ before)) (sym at) (omega arith);
        last = elim (last_of its) [
          | inl first ↦ inl (first ∙ sym at)
          | inr no_instruction ↦ inr (ap (file s q.thread) reached ∙ kept_file s e before run taken q.thread no_instruction ∙ sym (ap (file s q.thread) at))
        ];
        same_file = sym (ap (file s q.thread) reached);
        same_area = ap (λ (k : Kernel). area_of q.thread k.areas) kept ∙ sym (ap (λ (b : History). area_of q.thread (kernel s b).areas) at);
      }

  -- another hart's event
  since_other : is_of_hart h e ≡ false → sequence_on s h before ≡ Some q → IsSince s before h q → IsSince s (e ∷ before) h q
  since_other other was since =
      let at = (runs_throughout s before h q run.0 was).now in
      let apart : h ≢ e.entry.hart.0 = λ same. eqb-false e.entry.hart.0 h other (sym same) in
      let record_at = kernel s before in
      let tables = (settled s before run.0).good.kernel.tables in
      let elsewhere : running s e.entry.hart.0 before ≢ Some q.thread =
      λ there. runs_apart s.limits.harts h e.entry.hart.0 q.thread q.thread record_at.threads record_at.scheduling tables at (λ e. apart (sym e)) there refl in
      let longer = since.longer in
      record {
        inside = since.inside;
        runs = since.runs;
        longer = omega (arith, longer);
        last = since.last;
        same_file = (fit_at s e before run).apart h q.thread (file s q.thread before) apart at ∙ since.same_file;
        same_area = area_stays s e before q.thread run elsewhere ∙ since.same_area;
      }

  since_by : sequence_on s h (e ∷ before) ≡ Some q → SequenceStep s e before h q → (sequence_on s h before ≡ Some q → IsSince s before h q) → IsSince s (e ∷ before) h q
  since_by is (Elsewhere other was) rest = since_other other was (rest was)
  since_by is (Own own inside its) rest = since_own is own inside its

pub since_last : (s : Setting) (before : History) (h : ℕ) (q : Sequence) → IsRunHistory s before → sequence_on s h before ≡ Some q → IsSince s before h q
since_last s before h =
    by_sequence s h (λ b r. IsSince s b h r) (λ e b r run rest is step. since_by s e b h r run is step (rest r)) before

-- BYTES THAT NOTHING TOUCHED

abbrev pub AreSmall : List Bytes → Type 0
AreSmall ws = AllByRecursion (λ (w : Bytes). w.count ≤ PAGE_SIZE) ws

-- two readings have the same bytes at each of these
abbrev pub AgreeAll : (ℕ → Option ℕ) → (ℕ → Option ℕ) → List Bytes → Type 0
AgreeAll byte byte' ws = AllByRecursion (λ (w : Bytes). Agree byte byte' w.at w.count) ws

pub agree_twice : (a b c : ℕ → Option ℕ) (ws : List Bytes) → AgreeAll a b ws → AgreeAll b c ws → AgreeAll a c ws
agree_twice a b c [] p q = tt
agree_twice a b c (w ∷ ws) p q =
    (record { same = λ n low high. q.0.same n low high ∙ p.0.same n low high }, agree_twice a b c ws p.1 q.1)

pub views_stay : (s : Setting) (e : Event) (before : History) (h : ℕ) (ws : List Bytes) → IsRunHistory s (e ∷ before) → AreSmall ws
    → list_any (touches s e before) ws ≡ false → AgreeAll (view (here_in_history s before h)) (view (here_in_history s (e ∷ before) h)) ws
views_stay s e before h [] run small none = tt
views_stay s e before h (w ∷ ws) run small none =
    let parts = or_parts (touches s e before w) (list_any (touches s e before) ws) none in
    (view_stays s e before w small.0 parts.0 run h, views_stay s e before h ws run small.1 parts.1)

-- one event of those that are looked through
pub peeled : (s : Setting) (e : Event) (before : History) (ws : List Bytes) (n m : ℕ) → n ≡ m + 1 → touched_in s n (e ∷ before) ws ≡ false
    → (list_any (touches s e before) ws ≡ false) × (touched_in s m before ws ≡ false)
peeled s e before ws n m is none =
    let some : eqb n 0 ≡ false = ne_eqb n 0 (λ zero. omega arith) in
    let fewer : n - 1 ≡ m = omega arith in
    or_parts (list_any (touches s e before) ws) (touched_in s m before ws)
    (sym (ap (λ b. not b && (list_any (touches s e before) ws || touched_in s (n - 1) before ws)) some
    ∙ ap (λ k. list_any (touches s e before) ws || touched_in s k before ws) fewer) ∙ none)

-- how many events there were since the last of a sequence
abbrev pub since_count : Sequence → History → ℕ
since_count q before = length before - length (before_last q)

module _ (s : Setting) (e : Event) (before : History) (h : ℕ) (q : Sequence) (run : IsRunHistory s (e ∷ before)) (ws : List Bytes) (small : AreSmall ws) where
  abbrev seen_last : ℕ → Option ℕ
  seen_last = view (here_in_history s (before_last q) h)

  agree_own : IsOf s e before h q → touched_in s (since_count q (e ∷ before)) (e ∷ before) ws ≡ false
      → AgreeAll seen_last (view (here_in_history s (e ∷ before) h)) ws
  agree_own its none =
      let at = last_place e before q (is_reached s e before h its) in
      let one : since_count q (e ∷ before) ≡ 0 + 1 = ap (λ (b : History). length (e ∷ before) - length b) at ∙ omega arith in
      let clear = (peeled s e before ws (since_count q (e ∷ before)) 0 one none).0 in
      subst (λ (b : History). AgreeAll (view (here_in_history s b h)) (view (here_in_history s (e ∷ before) h)) ws) (sym at)
      (views_stay s e before h ws run small clear)

  agree_other : sequence_on s h before ≡ Some q → touched_in s (since_count q (e ∷ before)) (e ∷ before) ws ≡ false
      → (touched_in s (since_count q before) before ws ≡ false → AgreeAll seen_last (view (here_in_history s before h)) ws)
      → AgreeAll seen_last (view (here_in_history s (e ∷ before) h)) ws
  agree_other was none rest =
      let longer = (since_last s before h q run.0 was).longer in
      let more : since_count q (e ∷ before) ≡ since_count q before + 1 = omega (arith, longer) in
      let parts = peeled s e before ws (since_count q (e ∷ before)) (since_count q before) more none in
      agree_twice seen_last (view (here_in_history s before h)) (view (here_in_history s (e ∷ before) h)) ws (rest parts.1) (views_stay s e before h ws run small parts.0)

  agree_by : SequenceStep s e before h q → touched_in s (since_count q (e ∷ before)) (e ∷ before) ws ≡ false
      → (sequence_on s h before ≡ Some q → touched_in s (since_count q before) before ws ≡ false → AgreeAll seen_last (view (here_in_history s before h)) ws)
      → AgreeAll seen_last (view (here_in_history s (e ∷ before) h)) ws
  agree_by (Elsewhere other was) none rest = agree_other was none (rest was)
  agree_by (Own own inside its) none rest = agree_own its none

pub agree_since : (s : Setting) (before : History) (h : ℕ) (q : Sequence) → IsRunHistory s before → sequence_on s h before ≡ Some q
    → (ws : List Bytes) → AreSmall ws → touched_in s (since_count q before) before ws ≡ false
    → AgreeAll (view (here_in_history s (before_last q) h)) (view (here_in_history s before h)) ws
agree_since s before h =
    by_sequence s h (λ b r. (ws : List Bytes) → AreSmall ws → touched_in s (since_count r b) b ws ≡ false
    → AgreeAll (view (here_in_history s (before_last r) h)) (view (here_in_history s b h)) ws)
    (λ e b r run rest is step ws small none. agree_by s e b h r run ws small step none (λ was clear. rest r was ws small clear)) before
