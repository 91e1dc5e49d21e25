-- Every log whose entries are allowed is whole.
use Rattle.block_model.proofs.Common.{◌≡◌, ◌≢◌, ℕ, [], ◌∷◌, refl, sym, ap, ◌∙◌, subst, true, false, Option, Some, None, is_some, Done, End, EndsWhole, Event, Here, History, IsRunHistory, IsWholeHistory, Killed, Kind, Outcome, SIGSEGV, Sequence, Setting, by_call, done_preempt_by, eqb_same, false≢true, is_inside_at, is_inside_here, is_instruction, is_taken_in, killed_in_call, next_fault, number_of, one_instruction, option_map_or, runs, sequence_on}
use Rattle.mach_types.specs.declared.events.Kind.TheVariants as kind
use Rattle.block_model.specs.Whole.{IsFatalInstruction, IsWholeEvent, IsWholePlace, TouchesNothing, faults_or_calls, signal_inside}
use Rattle.block_model.proofs.EventEffects.{CallKills, Calls, EventDeed, FaultKills, Restarts, RunKills, SignalKills, deed_of}
use Rattle.block_model.proofs.Sequences.{goes_on, runs_throughout, Elsewhere, Own, SequenceStep, is_taken, sequence_step}
use Rattle.block_model.proofs.TouchedPlaces.{IsTakenIn}
use Rattle.block_model.proofs.SequenceEnds.{dropped_at, ends_whole_uninterrupted, quiet}
use Rattle.block_model.proofs.WholeEvents.{did, place, hangs}
use Rattle.block_model.proofs.SignalDeliveries.{ends_whole_delivered}
use Rattle.block_model.proofs.Restarts.{ends_whole_restarted}
use Rattle.block_model.proofs.WholeVerdicts.{ends_whole_at_verdict}

-- AN EVENT OF A SEQUENCE

-- the thread of its hart is inside before it, and it is taken in
record IsTaken (s : Setting) (e : Event) (before : History) : Type 0 where
  inside : is_inside_at s e.entry.hart.0 before ≡ true
  taken : is_taken_in e.entry.kind e.done.interrupted ≡ true

taken_by : (s : Setting) (e : Event) (before : History) (q : Sequence) → SequenceStep s e before e.entry.hart.0 q → IsTaken s e before
taken_by s e before q (Elsewhere other is) = absurd (false≢true (sym other ∙ eqb_same e.entry.hart.0))
taken_by s e before q (Own own inside its) = record { inside = inside; taken = is_taken s e before e.entry.hart.0 its }

event_taken : (s : Setting) (e : Event) (before : History) (q : Sequence) → sequence_on s e.entry.hart.0 (e ∷ before) ≡ Some q → IsTaken s e before
event_taken s e before q is = taken_by s e before q (sequence_step s e before e.entry.hart.0 q is)

-- it is an event of its thread
own_event : (s : Setting) (e : Event) (before : History) (q : Sequence) → IsRunHistory s (e ∷ before) → sequence_on s e.entry.hart.0 (e ∷ before) ≡ Some q
    → e.entry.tid.0 ≡ q.thread
own_event s e before q run is =
    let t = event_taken s e before q is in
    let goes = goes_on s e before run t.taken t.inside in
    ap number_of (sym (goes.still ∙ goes.thread) ∙ (runs_throughout s (e ∷ before) e.entry.hart.0 q run is).now)

-- what is taken in is so by what the event does
taken_here : (s : Setting) (e : Event) (before : History) (run : IsRunHistory s (e ∷ before)) → is_taken_in e.entry.kind e.done.interrupted ≡ true
    → IsTakenIn e.entry.kind e.entry (place s e before run)
taken_here s e before run taken = subst (λ (d : Done). is_taken_in e.entry.kind d.interrupted ≡ true) (did s e before run e.entry.kind refl) taken

-- HOW IT MAY END THE PROCESS

-- by the signal of its fault, or by SIGSEGV where it is a call
abbrev DiesBy : Done → ℕ → Type 0
DiesBy d signal = (over : End) → d.ended ≡ Some over → over ≡ Killed signal

-- the thread of the instruction is that which runs
same_thread : (here : Here) (t u : ℕ) → runs here ≡ Some u → runs here ≡ Some t → u ≡ t
same_thread here t u is on = let both : Some u ≡ Some t = sym is ∙ on in cc

kills_deed : (here : Here) (t tid : ℕ) {k : Kind} {d : Done} → EventDeed here tid k d → is_taken_in k d.interrupted ≡ true → runs here ≡ Some t
    → is_inside_here here t ≡ true → DiesBy d (option_map_or (λ n. n) (next_fault here t) SIGSEGV)
kills_deed here t tid (FaultKills u signal its) taken on inside =
    let same = same_thread here t u its.at on in
    subst (λ n. DiesBy (record (one_instruction here) { ended = Some (Killed signal) }) n)
    (ap (λ (o : Option ℕ). option_map_or (λ n. n) o SIGSEGV) (sym its.fault ∙ ap (next_fault here) same)) (λ over is. cc)
kills_deed here t tid (CallKills u e next calls) taken on inside =
    let same = same_thread here t u next.at on in
    subst (λ n. DiesBy (by_call here (killed_in_call here)) n)
    (ap (λ (o : Option ℕ). option_map_or (λ n. n) o SIGSEGV) (sym next.none ∙ ap (next_fault here) same)) (λ over is. cc)
kills_deed here t tid (Calls u e next calls outside) taken on inside =
    absurd (false≢true (sym outside ∙ ap (is_inside_here here) (same_thread here t u next.at on) ∙ inside))
kills_deed here t tid (Restarts u at) taken on inside = absurd (false≢true taken)
kills_deed here t tid RunKills taken on inside = absurd (false≢true taken)
kills_deed here t tid (SignalKills u signal killer at) taken on inside = absurd (false≢true taken)
kills_deed here t tid deed taken on inside = λ over is. absurd cc

dies_by : (s : Setting) (e : Event) (before : History) (q : Sequence) → IsRunHistory s (e ∷ before) → sequence_on s e.entry.hart.0 (e ∷ before) ≡ Some q
    → DiesBy e.done (signal_inside s e.entry.hart.0 e.entry.tid.0 before)
dies_by s e before q run is =
    let here = place s e before run in
    let t = event_taken s e before q is in
    let goes = goes_on s e before run t.taken t.inside in
    let inside : is_inside_here here e.entry.tid.0 ≡ true =
    sym (ap (λ r. option_map_or (is_inside_here here) r false) goes.thread) ∙ t.inside in
    subst (λ (d : Done). DiesBy d (signal_inside s e.entry.hart.0 e.entry.tid.0 before)) (sym (did s e before run e.entry.kind refl))
    (kills_deed here e.entry.tid.0 e.entry.tid.0 (deed_of here e.entry.kind e.entry) (taken_here s e before run t.taken) goes.thread inside)

-- and it is an instruction that faults, or is a call
fatal_deed : (here : Here) (t tid : ℕ) (over : End) {k : Kind} {d : Done} → EventDeed here tid k d → is_taken_in k d.interrupted ≡ true → runs here ≡ Some t
    → d.ended ≡ Some over → (is_instruction k ≡ true) × (faults_or_calls here t ≡ true)
fatal_deed here t tid over (FaultKills u signal its) taken on is =
    (refl, subst (λ n. faults_or_calls here n ≡ true) (same_thread here t u its.at on) (rw its.fault refl))
fatal_deed here t tid over (CallKills u e next calls) taken on is =
    (refl, subst (λ n. faults_or_calls here n ≡ true) (same_thread here t u next.at on) (rw (next.none, next.is, calls) refl))
fatal_deed here t tid over (Calls u e next calls outside) taken on is =
    (refl, subst (λ n. faults_or_calls here n ≡ true) (same_thread here t u next.at on) (rw (next.none, next.is, calls) refl))
fatal_deed here t tid over (Restarts u at) taken on is = absurd (false≢true taken)
fatal_deed here t tid over RunKills taken on is = absurd (false≢true taken)
fatal_deed here t tid over (SignalKills u signal killer at) taken on is = absurd (false≢true taken)
fatal_deed here t tid over deed taken on is = absurd cc

fatal_instruction : (s : Setting) (e : Event) (before : History) (q : Sequence) (over : End) → IsRunHistory s (e ∷ before)
    → sequence_on s e.entry.hart.0 (e ∷ before) ≡ Some q → e.done.ended ≡ Some over → IsFatalInstruction s e before
fatal_instruction s e before q over run is dies =
    let t = event_taken s e before q is in
    let goes = goes_on s e before run t.taken t.inside in
    let ended = sym (ap (λ (d : Done). d.ended) (did s e before run e.entry.kind refl)) ∙ dies in
    let both =
    fatal_deed (place s e before run) e.entry.tid.0 e.entry.tid.0 over (deed_of (place s e before run) e.entry.kind e.entry) (taken_here s e before run t.taken) goes.thread ended in
    record { instruction = both.0; fails = both.1 }

-- PREEMPTED INSIDE

-- a preemption touches nothing
preempt_touches : (here : Here) (r : Option ℕ)
    → ((done_preempt_by here r).executed ≡ []) × ((done_preempt_by here r).entered ≡ []) × ((done_preempt_by here r).kernel.pages ≡ here.kernel.pages)
preempt_touches here None = (refl, refl, refl)
preempt_touches here (Some t) = (refl, refl, refl)

touches_nothing : (s : Setting) (e : Event) (before : History) → IsRunHistory s (e ∷ before) → e.entry.kind ≡ kind.Preempt → TouchesNothing s e before
touches_nothing s e before run is =
    let here = place s e before run in
    let preempts = did s e before run kind.Preempt is in
    let none = preempt_touches here (runs here) in
    record {
      executed = ap (λ (d : Done). d.executed) preempts ∙ none.0;
      entered = ap (λ (d : Done). d.entered) preempts ∙ none.1;
      pages = ap (λ (d : Done). d.kernel.pages) preempts ∙ none.2;
    }

-- ENDS

-- what the next event of its hart makes of a sequence that it isn't of
module _ (s : Setting) (e : Event) (before : History) (q : Sequence) (run : IsRunHistory s (e ∷ before))
    (was : sequence_on s e.entry.hart.0 before ≡ Some q) (over : sequence_on s e.entry.hart.0 (e ∷ before) ≡ None) where
  quiet_so : (k : Kind) → e.entry.kind ≡ k → k ≢ kind.Signal → k ≢ kind.Take → EndsWhole s e before q
  quiet_so k is no_signal no_take =
      let signals : e.entry.kind ≢ kind.Signal = λ same. no_signal (sym is ∙ same) in
      ends_whole_uninterrupted s e before q run signals (quiet s e before q run signals (λ same. no_take (sym is ∙ same)) was) was over

  ends_taken : (o : Option Outcome) → e.done.interrupted ≡ o → e.entry.kind ≡ kind.Take → EndsWhole s e before q
  ends_taken None none is =
      ends_whole_uninterrupted s e before q run (λ signals. let other : kind.Take ≡ kind.Signal = sym is ∙ signals in absurd cc) none was over
  ends_taken (Some o) told is = ends_whole_restarted s e before q run is was (ap (λ (i : Option Outcome). is_some i) told)

  ends_by : (k : Kind) → e.entry.kind ≡ k → EndsWhole s e before q
  ends_by kind.Take is = ends_taken e.done.interrupted refl is
  ends_by kind.Signal is = ends_whole_delivered s e before q run is was
  ends_by k is = quiet_so k is (λ same. cc) (λ same. cc)

  ends_whole : EndsWhole s e before q
  ends_whole = ends_by e.entry.kind refl

-- PLACES, EVENTS AND LOGS

whole_place : (s : Setting) (before : History) → IsRunHistory s before → IsWholePlace s before
whole_place s before run = record {
  runs = λ h q is. runs_throughout s before h q run is;
  hangs = λ t q is. let there = hangs s before t q run is in record { thread = there.thread; ready = there.ready };
  dropped = λ h q is drops. dropped_at s before h q run is drops;
}

whole_event : (s : Setting) (e : Event) (before : History) → IsRunHistory s (e ∷ before) → IsWholeEvent s e before
whole_event s e before run = record {
  place = whole_place s (e ∷ before) run;
  ends = λ q was none. ends_whole s e before q run was none;
  verdict = λ q is hung. ends_whole_at_verdict s e before q run is hung;
  preempted = λ is inside. touches_nothing s e before run is;
  own = λ q is. own_event s e before q run is;
  dies = λ q over is ended. dies_by s e before q run is over ended;
  fatal = λ q over is ended. fatal_instruction s e before q over run is ended;
}

pub allowed_is_whole : (s : Setting) (before : History) → IsRunHistory s before → IsWholeHistory s before
allowed_is_whole s [] run = whole_place s [] run
allowed_is_whole s (e ∷ before) run = (allowed_is_whole s before run.0, whole_event s e before run)
