-- The delivery of a signal interrupts the thread of its hart, which goes on with the file that this leaves it once the handler of the
-- signal returns; or the process ends.
use Rattle.block_model.proofs.Common.{◌≡◌, ℕ, ◌+◌, [], ◌∷◌, refl, sym, ap, ◌∙◌, subst, Bool, true, false, not, cond, Option, Some, None, is_some, Area, BadWhy, Done, End, EndsWhole, Event, FindsBad, GoesOnWith, Here, History, IsDeadBy, IsLeftNull, IsRunHistory, Killed, Outcome, RSEQ_CS, RunsThroughout, SIGSEGV, Saved, Sequence, Setting, action_of, area_here, can_write_frame, done_next, done_signal_by, false≢true, file, file_among, file_interrupted, frame_writes, handled, handled_unless_killed, handler_file, has_killed, interruption_here, is_handler, is_writable, kills, mask_of, next_for, number_of, option_map, refusal_delivery, refusal_signal_by, runs, sequence_on, waiting_here, word_at, writes_of, fault_of, option_map_or, stack_pointer}
use Rattle.mach_types.specs.declared.events.Kind.TheVariants as kind
use Rattle.mach_types.specs.declared.sequences.Outcome.TheVariants as comes_to
use Rattle.block_model.specs.Events.Signal.{done_delivery, kills_unhandled}
use Rattle.block_model.specs.Whole.{IsHandled, IsKilledByDelivery, frame_of_handler, lies_on_pointer, lies_on_words}
use Rattle.block_model.proofs.Invariants.Events.{none_waits, out_of_barrier}
use Rattle.block_model.proofs.Sequences.{runs_throughout}
use Rattle.block_model.proofs.WholeCauses.{bad_found, found_by}
use Rattle.block_model.proofs.SignalsOfWaiters.{none_left}
use Rattle.block_model.proofs.SequenceEnds.{IsInterrupting, ends_whole_interrupted}
use Rattle.block_model.proofs.WholeEvents.{among_own, did, is_free, its_thread, place}
use Rattle.block_model.proofs.Interruptions.{memory_after, pointer_word, frame_leaves}

-- HOW A DELIVERY ENDS THE PROCESS

no_frame : (b : Bool) (killer : ℕ) → cond (not b) (Some SIGSEGV) None ≡ Some killer → (killer ≡ SIGSEGV) × (b ≡ false)
no_frame true killer is = absurd cc
no_frame false killer is = (cc, refl)

handles_where : (b c : Bool) (signal : ℕ) → cond (not b) (Some signal) (cond (not c) (Some SIGSEGV) None) ≡ None → b ≡ true
handles_where true c signal is = refl
handles_where false c signal is = absurd cc

module _ (here : Here) (t signal : ℕ) where
  abbrev came_to : Outcome
  came_to = interruption_here here t

  -- the signal by which it does, if any
  abbrev killer : Option ℕ
  killer = kills here t signal came_to

  interrupts : (k : Option ℕ) → (handled_unless_killed here t signal came_to k).interrupted ≡ Some came_to
  interrupts None = refl
  interrupts (Some n) = refl

  ends_by : (k : Option ℕ) → (handled_unless_killed here t signal came_to k).ended ≡ option_map (λ n. Killed n) k
  ends_by None = refl
  ends_by (Some n) = refl

  found_kills : FindsBad here t → killer ≡ Some SIGSEGV
  found_kills found = ap (kills here t signal) (bad_found here t found).1

  not_found : (o : Outcome) → came_to ≡ o → (FindsBad here t → ⊥) → kills here t signal o ≡ kills_unhandled here t signal o
  not_found (comes_to.Killed why) is never = absurd (never (found_by here t why is))
  not_found outcome is never = refl

  abbrev by_tests : Bool → Bool → Option ℕ
  by_tests handles frames = cond (not handles) (Some signal) (cond (not frames) (Some SIGSEGV) None)

  abbrev handles : Bool
  handles = is_handler (action_of signal here.kernel.signals)

  abbrev frames : Bool
  frames = can_write_frame (is_writable here) (action_of signal here.kernel.signals) (file_interrupted here t came_to)

  unhandled_kills : (FindsBad here t → ⊥) → handles ≡ false → killer ≡ Some signal
  unhandled_kills never none = not_found came_to refl never ∙ ap (λ b. by_tests b frames) none

  -- the frame lies where it would without the interruption
  same_frame : (o : Outcome) → can_write_frame (is_writable here) (action_of signal here.kernel.signals) (file_interrupted here t o)
      ≡ can_write_frame (is_writable here) (action_of signal here.kernel.signals) (here.file t)
  unfolding can_write_frame
  same_frame o = refl

  unframed_kills : (n : ℕ) → (FindsBad here t → ⊥) → handles ≡ true → killer ≡ Some n
      → (n ≡ SIGSEGV) × (can_write_frame (is_writable here) (action_of signal here.kernel.signals) (here.file t) ≡ false)
  unframed_kills n never handler is =
      let tested : by_tests true frames ≡ Some n = sym (ap (λ b. by_tests b frames) handler) ∙ sym (not_found came_to refl never) ∙ is in
      let none = no_frame frames n tested in
      (none.0, sym (same_frame came_to) ∙ none.1)

  -- where it doesn't, nothing bad was found, and the action is a handler
  never_entered : killer ≡ None → FindsBad here t → ⊥
  never_entered lives found =
      let both : None ≡ Some SIGSEGV = sym lives ∙ found_kills found in
      cc

  entered_handles : killer ≡ None → handles ≡ true
  entered_handles lives = handles_where handles frames signal (sym (not_found came_to refl (never_entered lives)) ∙ lives)

-- WHAT IS DELIVERED

-- a signal is delivered to thread t
record IsDelivered (here : Here) (t : ℕ) (d : Done) : Type 0 where
  signal : ℕ
  next : next_for t here.kernel.signals ≡ Some signal
  none_waits : waiting_here here ≡ []
  done : d ≡ done_delivery here t signal (interruption_here here t)

next_delivered : (here : Here) (t : ℕ) (next : Option ℕ) → next_for t here.kernel.signals ≡ next → refusal_delivery here next ≡ None
    → IsDelivered here t (done_next here t next)
next_delivered here t None is free = absurd cc
next_delivered here t (Some signal) is free = record { signal = signal; next = is; none_waits = none_waits (waiting_here here) free; done = refl }

delivered_by : (here : Here) (t : ℕ) (r : Option ℕ) → r ≡ Some t → refusal_signal_by here r ≡ None → IsDelivered here t (done_signal_by here r)
delivered_by here t None at free = absurd cc
delivered_by here t (Some u) at free =
    let same : u ≡ t = cc in
    let next = next_for u here.kernel.signals in
    let goes = (out_of_barrier here.awaits (refusal_delivery here next) free).1 in
    subst (λ n. IsDelivered here n (done_signal_by here (Some u))) same (next_delivered here u next refl goes)

-- A DELIVERY INTERRUPTS

some_killer : (k : Option ℕ) → is_some k ≡ true → (n : ℕ) × (k ≡ Some n)
some_killer None is = absurd (false≢true is)
some_killer (Some n) is = (n, refl)

some_mapped : (k : Option ℕ) → is_some (option_map (λ n. Killed n) k) ≡ is_some k
some_mapped None = refl
some_mapped (Some n) = refl

module _ (s : Setting) (e : Event) (before : History) (q : Sequence) (run : IsRunHistory s (e ∷ before)) (is : e.entry.kind ≡ kind.Signal)
    (newest : sequence_on s e.entry.hart.0 before ≡ Some q) where
  abbrev here : Here
  here = place s e before run

  abbrev t : ℕ
  t = q.thread

  there : RunsThroughout s before e.entry.hart.0 q
  there = runs_throughout s before e.entry.hart.0 q run.0 newest

  delivered : IsDelivered here t e.done
  delivered =
      subst (IsDelivered here t) (sym (did s e before run kind.Signal is))
      (delivered_by here t (runs here) there.now (is_free s e before run kind.Signal is))

  abbrev outcome : Outcome
  outcome = interruption_here here t

  abbrev its_killer : Option ℕ
  its_killer = killer here t delivered.signal

  own : e.entry.tid.0 ≡ t
  own = its_thread s e before run kind.Signal is ∙ ap number_of there.now

  told : e.done.interrupted ≡ Some outcome
  told = ap (λ (d : Done). d.interrupted) delivered.done ∙ interrupts here t delivered.signal its_killer

  ended_is : e.done.ended ≡ option_map (λ n. Killed n) its_killer
  ended_is = ap (λ (d : Done). d.ended) delivered.done ∙ ends_by here t delivered.signal its_killer

  killed_is : has_killed e ≡ is_some its_killer
  killed_is = ap (λ (o : Option End). is_some o) ended_is ∙ some_mapped its_killer

  found_ends : FindsBad here t → e.done.ended ≡ Some (Killed SIGSEGV)
  found_ends found = ended_is ∙ ap (option_map (λ n. Killed n)) (found_kills here t delivered.signal found)

  -- THE PROCESS IS KILLED

  never_own : (FindsBad here e.entry.tid.0 → ⊥) → FindsBad here t → ⊥
  never_own never found = never (subst (FindsBad here) (sym own) found)

  killed_so : (n : ℕ) → its_killer ≡ Some n → IsKilledByDelivery s e before
  killed_so n kills_it =
      let ended_so : e.done.ended ≡ Some (Killed n) = ended_is ∙ ap (option_map (λ m. Killed m)) kills_it in
      record {
        signal = delivered.signal;
        next = ap (λ u. next_for u here.kernel.signals) own ∙ delivered.next;
        checked = λ found. found_ends (subst (FindsBad here) own found);
        unhandled = λ never none.
            ended_is ∙ ap (option_map (λ m. Killed m)) (unhandled_kills here t delivered.signal (never_own never) none);
        unframed = λ never handler.
            let so = unframed_kills here t delivered.signal n (never_own never) handler kills_it in
            (ended_so ∙ ap (λ m. Some (Killed m)) so.0, ap (λ u. can_write_frame (is_writable here) (action_of delivered.signal here.kernel.signals) (here.file u)) own ∙ so.1);
      }

  -- THE HANDLER IS ENTERED

  module _ (alive_on : its_killer ≡ None) where
    handled_so : e.done ≡ handled here t delivered.signal outcome
    handled_so = delivered.done ∙ ap (handled_unless_killed here t delivered.signal outcome) alive_on

    goes_back : (saved : Saved) → file_interrupted here t outcome ≡ saved → IsHandled s e before t saved
    goes_back saved same =
        let g = here.kernel.signals in
        let its = handler_file delivered.signal (action_of delivered.signal g) (file_interrupted here t outcome) in
        subst (λ (f : Saved). IsHandled s e before t f) same (record {
          signal = delivered.signal;
          next = delivered.next;
          handler = entered_handles here t delivered.signal alive_on;
          earlier = writes_of (area_here here t) outcome;
          frame = ap (λ (d : Done). d.entered) handled_so;
          starts = ap (λ (d : Done). file_among d.files t (file s t before)) handled_so ∙ among_own t (file s t before) its;
        })

    never_dies : (why : BadWhy) → outcome ≡ comes_to.Killed why → ⊥
    never_dies why dies = never_entered here t delivered.signal alive_on (found_by here t why dies)

    left_null : (area : Area) → area_here here t ≡ Some area → lies_on_pointer s before t area ≡ false
        → word_at (memory_after here e.done) (area.at + RSEQ_CS) 8 ≡ Some 0
    left_null area registered apart =
        let saved = file_interrupted here t outcome in
        let g = here.kernel.signals in
        let signal = delivered.signal in
        let a = action_of signal g in
        let mask = mask_of t g in
        let here_apart : lies_on_words area a (stack_pointer saved) ≡ false =
        sym (ap (λ o. option_map_or (λ n. lies_on_words area (action_of n g) (stack_pointer (file s t before))) o false) delivered.next) ∙ apart in
        subst (λ (d : Done). word_at (memory_after here d) (area.at + RSEQ_CS) 8 ≡ Some 0) (sym handled_so)
        (pointer_word here t area registered (frame_writes signal a (fault_of t signal g) saved mask) (frame_leaves area signal a (fault_of t signal g) saved mask here_apart) never_dies)

  alive_so : has_killed e ≡ false → its_killer ≡ None
  alive_so lives = none_left its_killer (sym killed_is ∙ lives)

  interrupting : IsInterrupting s e before here t
  interrupting = record {
    none_waits = delivered.none_waits;
    told = told;
    found = found_ends;
    dead = λ killed.
        let some = some_killer its_killer (sym killed_is ∙ killed) in
        subst (λ k. IsDeadBy s k e before) (sym is) (killed_so some.0 some.1);
    entered = λ lives.
        (frame_of_handler t delivered.signal here.kernel.signals (file_interrupted here t outcome), ap (λ (d : Done). d.entered) (handled_so (alive_so lives)));
    null = λ lives area registered. subst (λ k. IsLeftNull s k e before t area) (sym is) (left_null (alive_so lives) area registered);
    goes_on = λ lives saved same. subst (λ k. GoesOnWith s k e before t saved) (sym is) (goes_back (alive_so lives) saved same);
  }

  pub ends_whole_delivered : EndsWhole s e before q
  ends_whole_delivered = ends_whole_interrupted s e before q run newest interrupting
