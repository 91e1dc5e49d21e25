-- What an event makes of the newest sequence of a hart, and of one that hangs; and where the thread of a sequence is: it runs on the
-- sequence's hart from the place before the first event on.
use Rattle.block_model.proofs.Common.{◌≡◌, ◌≢◌, ℕ, ◌∷◌, refl, sym, ◌∙◌, subst, Bool, true, false, not, cond, eqb, Option, Some, None, [], ap, Done, Entry, Event, Here, History, IsRunHistory, Kernel, Kind, Outcome, RunsThroughout, Sequence, Setting, begun_with, choice_of, choice_with, done, done_of, eqb-false, eqb-true, false≢true, hanging, hanging_after, here_in_history, is_inside_at, is_inside_here, is_instruction, is_of_hart, is_taken_in, number_of, option_map_or, running, running_on, runs, sequence_on, taken_up, thread_in, with_event, is_preempt, nature_of, Movement, hanging_moved}
use Rattle.mach_types.specs.Events.{is_beginning, is_leaving}
use Rattle.mach_types.specs.declared.events.Kind.TheVariants as kind
use Rattle.mach_types.specs.declared.events.Movement.TheVariants.{Stays, Leaves, Begins as StartsToRun}
use Rattle.block_model.proofs.Runs.{allowed_at, fit_at}
use Rattle.block_model.proofs.EventEffects.{Calls, EventDeed, Preempts, Runs, deed_of}
use Rattle.block_model.proofs.SignalTables.{OnlySignals}

-- a sequence begins with an instruction, which it takes in
pub instruction_taken : (k : Kind) (o : Option Outcome) → is_instruction k ≡ true → is_taken_in k o ≡ true
instruction_taken kind.Exec o is = refl
instruction_taken k o is = absurd (false≢true is)

-- THE NEWEST SEQUENCE OF A HART

-- an event is of a sequence: it begins with the event, where there was none, or was there before and takes it in
pub data IsOf (s : Setting) (e : Event) (before : History) (h : ℕ) : Sequence → Type 0 where
  Begins : sequence_on s h before ≡ None → is_instruction e.entry.kind ≡ true
      → IsOf s e before h (begun_with h e before)
  TakesIn : (r : Sequence) → sequence_on s h before ≡ Some r
      → is_taken_in e.entry.kind e.done.interrupted ≡ true
      → IsOf s e before h (with_event e before r)

-- an event of another hart leaves the sequence as it was; one of its hart is of it, and the thread was inside
-- before it
pub data SequenceStep (s : Setting) (e : Event) (before : History) (h : ℕ) (q : Sequence) : Type 0 where
  Elsewhere : is_of_hart h e ≡ false → sequence_on s h before ≡ Some q → SequenceStep s e before h q
  Own : e.entry.hart.0 ≡ h → is_inside_at s h before ≡ true → IsOf s e before h q
      → SequenceStep s e before h q

module _ (s : Setting) (e : Event) (before : History) (h : ℕ) where
  pub is_taken : {q : Sequence} → IsOf s e before h q → is_taken_in e.entry.kind e.done.interrupted ≡ true
  is_taken (Begins none first) = instruction_taken e.entry.kind e.done.interrupted first
  is_taken (TakesIn r was taken) = taken

  pub is_reached : {q : Sequence} → IsOf s e before h q → q.reached ≡ e ∷ before
  is_reached (Begins none first) = refl
  is_reached (TakesIn r was taken) = refl

module _ (s : Setting) (e : Event) (before : History) (h : ℕ) (q : Sequence) where
  begins_by : (b : Bool) → sequence_on s h before ≡ None → is_instruction e.entry.kind ≡ b
      → cond b (Some (begun_with h e before)) None ≡ Some q → IsOf s e before h q
  begins_by false none first is = absurd cc
  begins_by true none first is = let same : begun_with h e before ≡ q = cc in
      subst (IsOf s e before h) same (Begins none first)

  takes_by : (r : Sequence) (b : Bool) → sequence_on s h before ≡ Some r
      → is_taken_in e.entry.kind e.done.interrupted ≡ b
      → cond b (Some (with_event e before r)) None ≡ Some q → IsOf s e before h q
  takes_by r false was taken is = absurd cc
  takes_by r true was taken is = let same : with_event e before r ≡ q = cc in
      subst (IsOf s e before h) same (TakesIn r was taken)

  of_by : (o : Option Sequence) → sequence_on s h before ≡ o → taken_up h e before o ≡ Some q
      → IsOf s e before h q
  of_by None was is = begins_by (is_instruction e.entry.kind) was refl is
  of_by (Some r) was is = takes_by r (is_taken_in e.entry.kind e.done.interrupted) was refl is

  own_by : (c : Bool) → is_inside_at s h before ≡ c → e.entry.hart.0 ≡ h
      → cond c (taken_up h e before (sequence_on s h before)) None ≡ Some q → SequenceStep s e before h q
  own_by false inside own is = absurd cc
  own_by true inside own is = Own own inside (of_by (sequence_on s h before) refl is)

  step_by : (b : Bool) → is_of_hart h e ≡ b
      → cond (not b) (sequence_on s h before)
      (cond (is_inside_at s h before) (taken_up h e before (sequence_on s h before)) None) ≡ Some q
      → SequenceStep s e before h q
  step_by true own is = own_by (is_inside_at s h before) refl (eqb-true e.entry.hart.0 h own) is
  step_by false other is = Elsewhere other is

  pub sequence_step : sequence_on s h (e ∷ before) ≡ Some q → SequenceStep s e before h q
  sequence_step is = step_by (is_of_hart h e) refl is

-- what each event keeps of the newest sequence of a hart holds of it at each place of a run
pub by_sequence : (s : Setting) (h : ℕ) (P : History → Sequence → Type 0)
    → ((e : Event) (before : History) (q : Sequence) → IsRunHistory s (e ∷ before) → ((r : Sequence) → sequence_on s h before ≡ Some r → P before r)
    → sequence_on s h (e ∷ before) ≡ Some q → SequenceStep s e before h q → P (e ∷ before) q)
    → (before : History) (q : Sequence) → IsRunHistory s before → sequence_on s h before ≡ Some q → P before q
by_sequence s h P step [] q run is = absurd cc
by_sequence s h P step (e ∷ before) q run is =
    step e before q run (λ r was. by_sequence s h P step before r run.0 was) is (sequence_step s e before h q is)

-- A SEQUENCE THAT HANGS

-- it hung before the event, by which its thread doesn't begin to run; or the event preempts its thread inside
-- it
pub data HangingStep (s : Setting) (e : Event) (before : History) (t : ℕ) (q : Sequence) : Type 0 where
  HangsOn : hanging s t before ≡ Some q → (e.entry.kind ≡ kind.Run → e.entry.tid.0 ≢ t)
      → HangingStep s e before t q
  Preempted : is_preempt e.entry.kind ≡ true → e.entry.tid.0 ≡ t → is_inside_at s e.entry.hart.0 before ≡ true
      → sequence_on s e.entry.hart.0 before ≡ Some q → HangingStep s e before t q

module _ (s : Setting) (e : Event) (before : History) (t : ℕ) (q : Sequence) where
  preempted_by : (b : Bool) → is_inside_at s e.entry.hart.0 before ≡ b → is_preempt e.entry.kind ≡ true
      → e.entry.tid.0 ≡ t
      → cond b (sequence_on s e.entry.hart.0 before) None ≡ Some q → HangingStep s e before t q
  preempted_by true inside its own is = Preempted its own inside is
  preempted_by false inside its own is = absurd cc

  by_move : (m : Movement) → (nature_of e.entry.kind).movement ≡ m → e.entry.tid.0 ≡ t
      → hanging_moved s e before m (hanging s t before) ≡ Some q → HangingStep s e before t q
  by_move Stays its own is =
      HangsOn is (λ runs. absurd (false≢true (ap is_beginning (sym its ∙ ap (λ k. (nature_of k).movement) runs))))
  by_move Leaves its own is = preempted_by (is_inside_at s e.entry.hart.0 before) refl (ap is_leaving its) own is
  by_move StartsToRun its own is = absurd cc

  by_thread : (b : Bool) → eqb e.entry.tid.0 t ≡ b
      → cond b (hanging_after s t e before e.entry.kind (hanging s t before)) (hanging s t before) ≡ Some q
      → HangingStep s e before t q
  by_thread true own is = by_move (nature_of e.entry.kind).movement refl (eqb-true e.entry.tid.0 t own) is
  by_thread false other is = HangsOn is (λ runs. eqb-false e.entry.tid.0 t other)

  pub hanging_step : hanging s t (e ∷ before) ≡ Some q → HangingStep s e before t q
  hanging_step is = by_thread (eqb e.entry.tid.0 t) refl is

-- WHAT A SEQUENCE TAKES IN KEEPS THE RECORD, BUT FOR ITS SIGNALS

-- it takes in no event by which a thread leaves its hart
leaving_stays_out : (k : Kind) (o : Option Outcome) → is_preempt k ≡ true → is_taken_in k o ≡ false
leaving_stays_out kind.Exec o leaves = absurd (false≢true leaves)
leaving_stays_out kind.Drain o leaves = absurd (false≢true leaves)
leaving_stays_out kind.Take o leaves = absurd (false≢true leaves)
leaving_stays_out k o leaves = refl

-- of the record only the signals change
taken_deed : (here : Here) (tid : ℕ) (o : Option Outcome) {k : Kind} {d : Done} → EventDeed here tid k d → is_taken_in k o ≡ true
    → option_map_or (is_inside_here here) (runs here) false ≡ true → OnlySignals here.kernel d.kernel
taken_deed here tid o (Calls t e next calls outside) taken inside =
    absurd (false≢true (sym outside ∙ sym (ap (λ r. option_map_or (is_inside_here here) r false) next.at) ∙ inside))
taken_deed here tid o (Preempts k t leaves at) taken inside = absurd (false≢true (sym (leaving_stays_out k o leaves) ∙ taken))
taken_deed here tid o Runs taken inside = absurd (false≢true taken)
taken_deed here tid o deed taken inside = refl

pub taken_keeps : (k : Kind) (x : Entry) (o : Option Outcome) (here : Here) → is_taken_in k o ≡ true
    → option_map_or (is_inside_here here) (runs here) false ≡ true → OnlySignals here.kernel (done_of (choice_with k x) here).kernel
taken_keeps k x o here taken inside = taken_deed here x.tid.0 o (deed_of here k x) taken inside

-- and is an event of the thread that runs
taken_thread : (k : Kind) (x : Entry) (o : Option Outcome) (here : Here) → is_taken_in k o ≡ true → thread_in (choice_with k x) here ≡ runs here
taken_thread kind.Run x o here taken = absurd (false≢true taken)
taken_thread k x o here taken = refl

-- ONE EVENT

-- an event of hart h of the thread that runs there, which goes on to run there
pub record GoesOn (s : Setting) (e : Event) (before : History) (h : ℕ) : Type 0 where
  pub thread : running s h before ≡ Some e.entry.tid.0
  pub still : running s h (e ∷ before) ≡ running s h before

inside_runs : (here : Here) (r : Option ℕ) → option_map_or (is_inside_here here) r false ≡ true → r ≡ Some (number_of r)
inside_runs here None inside = absurd (false≢true inside)
inside_runs here (Some t) inside = refl

pub goes_on : (s : Setting) (e : Event) (before : History) → IsRunHistory s (e ∷ before) → is_taken_in e.entry.kind e.done.interrupted ≡ true
    → is_inside_at s e.entry.hart.0 before ≡ true → GoesOn s e before e.entry.hart.0
unfolding done
goes_on s e before run taken inside =
    let here = here_in_history s before e.entry.hart.0 in
    let a = allowed_at s before e.entry.hart.0 (choice_of e.entry) e.entry run.1 in
    let number : e.entry.tid.0 ≡ number_of (runs here) =
    ap (λ (x : Entry). x.tid.0) a.is ∙ ap number_of (taken_thread e.entry.kind e.entry e.done.interrupted here taken) in
    let kept : e.done.kernel.threads ≡ here.kernel.threads =
    ap (λ (x : Event). x.done.kernel.threads) run.2
    ∙ ap (λ (k : Kernel). k.threads) (taken_keeps e.entry.kind e.entry e.done.interrupted here taken inside) in
    record {
      thread = inside_runs here (runs here) inside ∙ ap Some (sym number);
      still = ap (running_on e.entry.hart.0) kept;
    }

-- SEQUENCES

module _ (s : Setting) (e : Event) (before : History) (h : ℕ) (run : IsRunHistory s (e ∷ before))
    (rest : (r : Sequence) → sequence_on s h before ≡ Some r → RunsThroughout s before h r) where
  own_runs : {q : Sequence} → GoesOn s e before h → IsOf s e before h q → RunsThroughout s (e ∷ before) h q
  own_runs goes (Begins none first) = record { hart = refl; first = goes.thread; now = goes.still ∙ goes.thread }
  own_runs goes (TakesIn r was taken) = let old = rest r was in record { hart = old.hart; first = old.first; now = goes.still ∙ old.now }

  runs_by : {q : Sequence} → SequenceStep s e before h q → RunsThroughout s (e ∷ before) h q
  runs_by (Elsewhere other is) =
      let was = rest _ is in
      let apart : h ≢ e.entry.hart.0 = λ same. eqb-false e.entry.hart.0 h other (sym same) in
      record { hart = was.hart; first = was.first; now = (fit_at s e before run).others h apart ∙ was.now }
  runs_by (Own own inside its) =
      let goes = goes_on s e before run (is_taken s e before h its) (ap (λ k. is_inside_at s k before) own ∙ inside) in
      own_runs (subst (GoesOn s e before) own goes) its

pub runs_throughout : (s : Setting) (before : History) (h : ℕ) (q : Sequence) → IsRunHistory s before → sequence_on s h before ≡ Some q
    → RunsThroughout s before h q
runs_throughout s before h =
    by_sequence s h (λ b r. RunsThroughout s b h r) (λ e b r run rest is step. runs_by s e b h run rest step) before
