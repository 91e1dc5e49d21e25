-- The taking of requests one of which asks for a restart interrupts the thread of its hart, which goes on at once with the file that
-- this leaves it; or the process ends.
use Rattle.block_model.proofs.Common.{◌≡◌, ℕ, ◌+◌, [], ◌∷◌, refl, sym, ap, ◌∙◌, subst, Bool, true, false, List, Option, Some, is_some, Area, BadWhy, Done, End, EndsWhole, Event, FindsBad, GoesOnWith, Here, History, IsDeadBy, IsLeftNull, IsRunHistory, Killed, Outcome, RSEQ_CS, RunsThroughout, SIGSEGV, Saved, Sequence, Setting, Write, append-nil, area_here, done_take_by, false≢true, file, file_among, file_interrupted, files_interrupted, has_killed, interruption_here, killed_by, number_of, runs, sequence_on, took_and_interrupted, waiting_here, word_at, writes_of}
use Rattle.mach_types.specs.declared.events.Kind.TheVariants as kind
use Rattle.mach_types.specs.declared.sequences.Outcome.TheVariants as comes_to
use Rattle.block_model.proofs.Invariants.Events.{takes_where}
use Rattle.block_model.proofs.Sequences.{runs_throughout}
use Rattle.block_model.proofs.WholeCauses.{IsKilled, bad_found, found_by}
use Rattle.block_model.proofs.SequenceEnds.{IsInterrupting, ends_whole_interrupted}
use Rattle.block_model.proofs.WholeEvents.{among_own, did, is_free, its_thread, place}
use Rattle.block_model.proofs.Interruptions.{may_read, memory_after, pointer_word, none_leaves, readable_after}

-- WHAT IS TAKEN

-- the requests of a hart are taken, and thread t is interrupted there
record IsRestarted (here : Here) (t : ℕ) (d : Done) : Type 0 where
  none_waits : waiting_here here ≡ []
  done : d ≡ took_and_interrupted here t (interruption_here here t)

restarted_by : (here : Here) (t : ℕ) (restart : Bool) (r : Option ℕ) → r ≡ Some t → waiting_here here ≡ []
    → is_some (done_take_by here restart r).interrupted ≡ true → IsRestarted here t (done_take_by here restart r)
restarted_by here t true (Some u) at none some =
    let same : u ≡ t = cc in
    subst (λ n. IsRestarted here n (done_take_by here true (Some u))) same (record { none_waits = none; done = refl })
restarted_by here t b o at none some = absurd (false≢true some)

-- WHAT AN INTERRUPTION LEAVES

-- only what is bad ends the process
killed_so : (o : Outcome) → is_some (killed_by o) ≡ true → IsKilled o
killed_so (comes_to.Killed why) is = (why, refl)
killed_so outcome is = absurd (false≢true is)

-- the file of the thread
file_set : (here : Here) (t : ℕ) (o : Outcome) → file_among (files_interrupted here t o) t (here.file t) ≡ file_interrupted here t o
file_set here t (comes_to.Aborted at) = among_own t (here.file t) (record (here.file t) { pc = at })
file_set here t outcome = refl

module _ (s : Setting) (e : Event) (before : History) (q : Sequence) (run : IsRunHistory s (e ∷ before)) (is : e.entry.kind ≡ kind.Take)
    (newest : sequence_on s e.entry.hart.0 before ≡ Some q) (some : is_some e.done.interrupted ≡ true) where
  abbrev here : Here
  here = place s e before run

  abbrev t : ℕ
  t = q.thread

  abbrev outcome : Outcome
  outcome = interruption_here here t

  there : RunsThroughout s before e.entry.hart.0 q
  there = runs_throughout s before e.entry.hart.0 q run.0 newest

  own : e.entry.tid.0 ≡ t
  own = its_thread s e before run kind.Take is ∙ ap number_of there.now

  restarted : IsRestarted here t e.done
  restarted =
      let taken = did s e before run kind.Take is in
      let none = (takes_where here (is_free s e before run kind.Take is)).1 in
      let told = subst (λ (d : Done). is_some d.interrupted ≡ true) taken some in
      subst (IsRestarted here t) (sym taken)
      (restarted_by here t here.restart (runs here) there.now none told)

  ended_is : e.done.ended ≡ killed_by outcome
  ended_is = ap (λ (d : Done). d.ended) restarted.done

  found_ends : FindsBad here t → e.done.ended ≡ Some (Killed SIGSEGV)
  found_ends found = ended_is ∙ ap killed_by (bad_found here t found).1

  dead_so : has_killed e ≡ true → (e.done.ended ≡ Some (Killed SIGSEGV)) × FindsBad here e.entry.tid.0
  dead_so killed =
      let bad = killed_so outcome (sym (ap (λ (o : Option End). is_some o) ended_is) ∙ killed) in
      let found = found_by here t bad.0 bad.1 in
      (found_ends found, subst (FindsBad here) (sym own) found)

  -- the pointer is left 0
  never_dies : has_killed e ≡ false → (why : BadWhy) → outcome ≡ comes_to.Killed why → ⊥
  never_dies lives why dies = false≢true (sym lives ∙ ap (λ (o : Option End). is_some o) (ended_is ∙ ap killed_by dies))

  left_null : has_killed e ≡ false → (area : Area) → area_here here t ≡ Some area → word_at (memory_after here e.done) (area.at + RSEQ_CS) 8 ≡ Some 0
  left_null lives area registered =
      subst (λ (d : Done). word_at (memory_after here d) (area.at + RSEQ_CS) 8 ≡ Some 0) (sym restarted.done)
      (subst (λ (ws : List Write). word_at (readable_after (may_read here) ws here.byte) (area.at + RSEQ_CS) 8 ≡ Some 0)
      (append-nil (writes_of (area_here here t) outcome))
      (pointer_word here t area registered [] (none_leaves area) (never_dies lives)))

  goes_with : (saved : Saved) → file_interrupted here t outcome ≡ saved → file s t (e ∷ before) ≡ saved
  goes_with saved same = ap (λ (d : Done). file_among d.files t (file s t before)) restarted.done ∙ file_set here t outcome ∙ same

  interrupting : IsInterrupting s e before here t
  interrupting = record {
    none_waits = restarted.none_waits;
    told = ap (λ (d : Done). d.interrupted) restarted.done;
    found = found_ends;
    dead = λ killed. subst (λ k. IsDeadBy s k e before) (sym is) (dead_so killed);
    entered = λ lives. ([], ap (λ (d : Done). d.entered) restarted.done ∙ sym (append-nil (writes_of (area_here here t) outcome)));
    null = λ lives area registered. subst (λ k. IsLeftNull s k e before t area) (sym is) (left_null lives area registered);
    goes_on = λ lives saved same. subst (λ k. GoesOnWith s k e before t saved) (sym is) (goes_with saved same);
  }

  pub ends_whole_restarted : EndsWhole s e before q
  ends_whole_restarted = ends_whole_interrupted s e before q run newest interrupting
