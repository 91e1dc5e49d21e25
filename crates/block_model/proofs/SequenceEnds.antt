-- What the next event of its hart makes of a sequence that it isn't of: where it doesn't interrupt the thread, and where it does.
use Rattle.block_model.proofs.Common.{◌≡◌, ◌≢◌, ℕ, [], ◌∷◌, ◌&&◌, ◌||◌, refl, sym, ap, ◌∙◌, subst, Bool, true, false, not, cond, eqb, Option, Some, None, is_some, ◌+◌, ◌⊎◌, inl, inr, List, ◌++◌, Any, Area, Done, End, EndsWhole, Entry, Event, FindsBad, GoesOnWith, Here, History, IsCutProperly, IsDeadBy, IsLeftNull, IsRunHistory, Killed, Kind, NotInBarrier, Outcome, RSEQ_CS, RunsThroughout, SIGSEGV, Saved, Sequence, Setting, Stored, WasTouched, Write, abort_of, area_here, choice_with, cut_or, end_before, end_so_far, ended, eqb_same, false≢true, file, file_interrupted, hanging, hanging_after, has_died, has_killed, here_in_history, interruption_here, is_inside_at, is_inside_here, is_inside_named, is_inside_waiting, is_taken_in, is_writable, memory, moved_out, number_of, option_map_or, option_or, refusal_done_by, refusal_of, refusal_return, refusal_run_by, runs, sequence_on, taken_up, view, waiting_here, with_event, writes_of, is_preempt, nature_of, SeqEnd}
use Rattle.block_model.proofs.EventNeeds.{leaving_runs, moved_leaving}
use Rattle.mach_types.specs.declared.events.Kind.TheVariants as kind
use Rattle.mach_types.specs.declared.sequences.Outcome.TheVariants as comes_to
use Rattle.block_model.specs.declared.acts.SeqEnd.TheVariants as ends
use Rattle.block_model.specs.Acts.{left_or_dropped}
use Rattle.block_model.specs.Sequences.{named_over}
use Rattle.block_model.specs.Whole.{IsCutOrDead, IsLeftOrDropped}
use Rattle.block_model.proofs.RunEnds.{neither}
use Rattle.block_model.proofs.EventEffects.{EventDeed, Handles, Restarts, RunKills, Runs, SignalKills, deed_of}
use Rattle.block_model.proofs.Sequences.{runs_throughout, Elsewhere, Own, SequenceStep, is_reached, by_sequence}
use Rattle.block_model.proofs.Touched.{dropped_is_touched}
use Rattle.block_model.proofs.Barriers.OutsideSequences.{in_no_barrier}
use Rattle.block_model.proofs.WholeEvents.{cut_at_handler, did, is_free, its_thread, not_over, place, reached_file}
use Rattle.block_model.proofs.TouchedHanging.{sees_memory}
use Rattle.block_model.proofs.WholeCauses.{found_by, outside_goes_on}
use Rattle.block_model.proofs.Interruptions.{InsideOf, first_cleared, inside_of}

-- NOTHING HAD ENDED

-- a sequence of which an event ended the process is the end of the run
module _ (s : Setting) (e : Event) (before : History) (h : ℕ) (q : Sequence) where
  alive_by : SequenceStep s e before h q → option_or e.done.ended (ended before) ≡ None
      → (ended before ≡ None → sequence_on s h before ≡ Some q → has_died q ≡ false) → has_died q ≡ false
  alive_by (Own own inside its) none rest =
      ap (λ (r : History). elim r [ [] ↦ false | x ∷ xs ↦ has_killed x ]) (is_reached s e before h its)
      ∙ ap (λ (o : Option End). is_some o) (neither e.done.ended (ended before) none).0
  alive_by (Elsewhere other is) none rest = rest (neither e.done.ended (ended before) none).1 is

pub alive : (s : Setting) (before : History) (h : ℕ) (q : Sequence) → IsRunHistory s before → sequence_on s h before ≡ Some q → ended before ≡ None → has_died q ≡ false
alive s before h =
    by_sequence s h (λ b r. ended b ≡ None → has_died r ≡ false)
    (λ e b r run rest is step none. alive_by s e b h r step none (λ goes was. rest r was goes)) before

-- NOTHING INTERRUPTS

busy : (here : Here) (t u : ℕ) (r : Option ℕ) → r ≡ Some u → refusal_run_by here t r ≡ None → ⊥
busy here t u None on free = cc
busy here t u (Some v) on free = cc

-- only signals, requests that are taken and beginnings interrupt
quiet_deed : (here : Here) (tid : ℕ) {k : Kind} {d : Done} → EventDeed here tid k d → k ≢ kind.Signal → k ≢ kind.Take → k ≢ kind.Run → d.interrupted ≡ None
quiet_deed here tid (Restarts t at) no_signal no_take no_run = absurd (no_take refl)
quiet_deed here tid Runs no_signal no_take no_run = absurd (no_run refl)
quiet_deed here tid RunKills no_signal no_take no_run = absurd (no_run refl)
quiet_deed here tid (Handles t signal at) no_signal no_take no_run = absurd (no_signal refl)
quiet_deed here tid (SignalKills t signal killer at) no_signal no_take no_run = absurd (no_signal refl)
quiet_deed here tid deed no_signal no_take no_run = refl

-- and none of a hart that runs a thread begins to run one
no_run : (k : Kind) (x : Entry) (here : Here) (u : ℕ) → runs here ≡ Some u → refusal_of (choice_with k x) here ≡ None → k ≢ kind.Run
no_run k x here u on free same =
    busy here x.tid.0 u (runs here) on (subst (λ (k : Kind). refusal_of (choice_with k x) here ≡ None) same free)

pub quiet : (s : Setting) (e : Event) (before : History) (q : Sequence) → IsRunHistory s (e ∷ before) → e.entry.kind ≢ kind.Signal
    → e.entry.kind ≢ kind.Take → sequence_on s e.entry.hart.0 before ≡ Some q → e.done.interrupted ≡ None
quiet s e before q run no_signal no_take is =
    ap (λ (d : Done). d.interrupted) (did s e before run e.entry.kind refl)
    ∙ quiet_deed (place s e before run) e.entry.tid.0 (deed_of (place s e before run) e.entry.kind e.entry) no_signal no_take
    (no_run e.entry.kind e.entry (place s e before run) q.thread (runs_throughout s before e.entry.hart.0 q run.0 is).now
    (is_free s e before run e.entry.kind refl))

-- ENDS

-- where nothing had ended and nothing interrupts
plain_end : (died killed moved inside : Bool) (i : Option Outcome) (other : SeqEnd) → died ≡ false → i ≡ None
    → cond (died || (is_some i && killed) && not (moved && not inside)) ends.Dead (cut_or other inside (abort_of i)) ≡ other
plain_end false killed moved inside None other p q = refl
plain_end b killed moved inside o other p q = absurd cc

dropped_by : (s : Setting) (q : Sequence) (inside : Bool) → left_or_dropped s q inside ≡ ends.Dropped → (inside ≡ false) × (moved_out s q ≡ false)
dropped_by s q true is = absurd cc
dropped_by s q false is = (refl, go (moved_out s q) refl is)
  where
    go : (b : Bool) → moved_out s q ≡ b → cond b ends.Left ends.Dropped ≡ ends.Dropped → moved_out s q ≡ false
    go true moved is = absurd cc
    go false moved is = moved

-- a sequence that would be dropped was touched
pub dropped_so : (s : Setting) (before : History) (h : ℕ) (q : Sequence) → IsRunHistory s before → sequence_on s h before ≡ Some q
    → has_died q ≡ false → left_or_dropped s q (is_inside_at s q.hart before) ≡ ends.Dropped → WasTouched s before q
dropped_so s before h q run is lives drops =
    let p = dropped_by s q (is_inside_at s q.hart before) drops in
    let outside : is_inside_at s h before ≡ false = ap (λ k. is_inside_at s k before) (sym (runs_throughout s before h q run is).hart) ∙ p.0 in
    dropped_is_touched s before h q run is lives outside p.1

-- ONE THAT ISN'T OVER HANGS

-- the event isn't taken in
not_taken : (b : Bool) (q : Sequence) → cond b (Some q) None ≡ None → b ≡ false
not_taken true q is = absurd cc
not_taken false q is = refl

-- so its thread leaves by it, since that one waits in no barrier
never_returns : (here : Here) (r : Option ℕ) → here.awaits ≡ None → refusal_done_by here r ≡ None → ⊥
never_returns here None out free = cc
never_returns here (Some t) out free =
    let other : Some NotInBarrier ≡ None = sym (ap refusal_return out) ∙ free in
    cc

preempts : (k : Kind) (x : Entry) (here : Here) (u : ℕ) → k ≢ kind.Signal → here.awaits ≡ None → runs here ≡ Some u
    → refusal_of (choice_with k x) here ≡ None → is_taken_in k None ≡ false → is_preempt k ≡ true
preempts kind.Done x here u other out on free isnt = absurd (never_returns here (runs here) out free)
preempts kind.Run x here u other out on free isnt = absurd (busy here x.tid.0 u (runs here) on free)
preempts kind.Signal x here u other out on free isnt = absurd (other refl)
preempts kind.Preempt x here u other out on free isnt = refl
preempts k x here u other out on free isnt = absurd (false≢true (sym isnt))

module _ (s : Setting) (e : Event) (before : History) (q : Sequence) (run : IsRunHistory s (e ∷ before))
    (isnt : e.entry.kind ≢ kind.Signal) (none : e.done.interrupted ≡ None) (is : sequence_on s e.entry.hart.0 before ≡ Some q)
    (over : sequence_on s e.entry.hart.0 (e ∷ before) ≡ None) (inside : is_inside_at s e.entry.hart.0 before ≡ true) where
  abbrev h : ℕ
  h = e.entry.hart.0

  left_out : is_taken_in e.entry.kind None ≡ false
  left_out =
      let own = ap (λ b. cond (not b) (sequence_on s h before) (cond (is_inside_at s h before) (taken_up h e before (sequence_on s h before)) None)) (eqb_same h) in
      let taken : taken_up h e before (Some q) ≡ None =
      ap (taken_up h e before) (sym is)
      ∙ ap (λ b. cond b (taken_up h e before (sequence_on s h before)) None) (sym inside)
      ∙ sym own ∙ over in
      sym (ap (is_taken_in e.entry.kind) none) ∙ not_taken (is_taken_in e.entry.kind e.done.interrupted) (with_event e before q) taken

  hangs_then : hanging s q.thread (e ∷ before) ≡ Some q
  hangs_then =
      let here = place s e before run in
      let there = (runs_throughout s before h q run.0 is).now in
      let out = in_no_barrier s before h q run.0 is in
      let free = is_free s e before run e.entry.kind refl in
      let leaves = preempts e.entry.kind e.entry here q.thread isnt out there free left_out in
      let own : e.entry.tid.0 ≡ q.thread =
      its_thread s e before run e.entry.kind refl ∙ ap number_of (sym (leaving_runs e.entry.kind e.entry here leaves free) ∙ there) in
      let still = hanging s q.thread before in
      ap (λ n. cond (eqb n q.thread) (hanging_after s q.thread e before e.entry.kind still) still) own
      ∙ ap (λ b. cond b (hanging_after s q.thread e before e.entry.kind still) still) (eqb_same q.thread)
      ∙ moved_leaving s e before (nature_of e.entry.kind).movement still leaves
      ∙ ap (λ b. cond b (sequence_on s h before) None) inside
      ∙ is

-- WHAT HOLDS BY THE END

-- of a sequence that ends so
abbrev pub FitsEnd : Setting → Event → History → Sequence → SeqEnd → Type 0
FitsEnd s e before q ends.Dead = IsDeadBy s e.entry.kind e before
FitsEnd s e before q (ends.Cut at) = IsCutProperly s e before q at
FitsEnd s e before q ends.Left = Unit {0}
FitsEnd s e before q ends.Dropped = WasTouched s before q
FitsEnd s e before q ends.Unended = hanging s q.thread (e ∷ before) ≡ Some q

-- of an event that interrupts
pub record FitsInterruption (s : Setting) (e : Event) (before : History) (q : Sequence) : Type 0 where
  pub inside : is_inside_at s q.hart before ≡ true → IsCutOrDead (end_before s q e before)
  pub aborted : (at : ℕ) → e.done.interrupted ≡ Some (comes_to.Aborted at) → IsCutOrDead (end_before s q e before)
  pub kept : e.done.ended ≡ None → IsLeftOrDropped (end_before s q e before) → GoesOnWith s e.entry.kind e before q.thread (file s q.thread q.reached)
  pub emptied : (area : Area) → e.done.ended ≡ None → area_here (here_in_history s before e.entry.hart.0) q.thread ≡ Some area
      → IsLeftNull s e.entry.kind e before q.thread area
  pub killed : is_some e.done.ended ≡ true → IsDeadBy s e.entry.kind e before
  pub caused : FindsBad (here_in_history s before e.entry.hart.0) q.thread → e.done.ended ≡ Some (Killed SIGSEGV)

module _ (s : Setting) (e : Event) (before : History) (q : Sequence) where
  pub ends_whole_by : FitsEnd s e before q (end_before s q e before) → (is_some e.done.interrupted ≡ true → FitsInterruption s e before q)
      → EndsWhole s e before q
  ends_whole_by fits interrupts = record {
    unended = λ is. subst (FitsEnd s e before q) is fits;
    interrupted = λ some. (interrupts some).inside;
    cut = λ at is. subst (FitsEnd s e before q) is fits;
    aborted = λ at sent. (interrupts (ap (λ (o : Option Outcome). is_some o) sent)).aborted at sent;
    dropped = λ is. subst (FitsEnd s e before q) is fits;
    kept = λ some. (interrupts some).kept;
    emptied = λ area some. (interrupts some).emptied area;
    dead = λ is. subst (FitsEnd s e before q) is fits;
    killed = λ some. (interrupts some).killed;
    caused = λ some. (interrupts some).caused;
  }

  -- one whose thread isn't inside was left, or dropped
  pub fits_outside : IsRunHistory s before → sequence_on s e.entry.hart.0 before ≡ Some q → has_died q ≡ false → is_inside_at s q.hart before ≡ false
      → FitsEnd s e before q (left_or_dropped s q false)
  fits_outside run is lives outside = by_move (moved_out s q) refl
    where
      by_move : (b : Bool) → moved_out s q ≡ b → FitsEnd s e before q (cond b ends.Left ends.Dropped)
      by_move true moved = tt
      by_move false moved =
          dropped_so s before e.entry.hart.0 q run is lives (ap (left_or_dropped s q) outside ∙ ap (λ b. cond b ends.Left ends.Dropped) moved)

pub ends_whole_uninterrupted : (s : Setting) (e : Event) (before : History) (q : Sequence) → IsRunHistory s (e ∷ before)
    → e.entry.kind ≢ kind.Signal → e.done.interrupted ≡ None → sequence_on s e.entry.hart.0 before ≡ Some q
    → sequence_on s e.entry.hart.0 (e ∷ before) ≡ None → EndsWhole s e before q
ends_whole_uninterrupted s e before q run isnt none is over =
    let never : is_some e.done.interrupted ≡ true → ⊥ = λ some. false≢true (sym (ap (λ (o : Option Outcome). is_some o) none) ∙ some) in
    let lives = alive s before e.entry.hart.0 q run.0 is (neither (ended before) _ (not_over s e before run)).0 in
    let so : end_before s q e before ≡ left_or_dropped s q (is_inside_at s q.hart before) =
    plain_end (has_died q) (has_killed e) (moved_out s q) (is_inside_at s q.hart before) e.done.interrupted _ lives none in
    let hart = (runs_throughout s before e.entry.hart.0 q run.0 is).hart in
    let at_hart : is_inside_at s e.entry.hart.0 before ≡ is_inside_at s q.hart before = ap (λ k. is_inside_at s k before) (sym hart) in
    ends_whole_by s e before q (subst (FitsEnd s e before q) (sym so) (by_inside lives at_hart (is_inside_at s q.hart before) refl)) (λ some. absurd (never some))
  where
    by_inside : has_died q ≡ false → is_inside_at s e.entry.hart.0 before ≡ is_inside_at s q.hart before → (b : Bool) → is_inside_at s q.hart before ≡ b
        → FitsEnd s e before q (left_or_dropped s q b)
    by_inside lives at_hart true inside = hangs_then s e before q run isnt none is over (at_hart ∙ inside)
    by_inside lives at_hart false outside = fits_outside s e before q run.0 is lives outside

-- one that has ended as dropped at a place, where nothing ended the process
died_or : (died : Bool) (other : SeqEnd) → cond died ends.Dead other ≡ ends.Dropped → (died ≡ false) × (other ≡ ends.Dropped)
died_or true other is = absurd cc
died_or false other is = (refl, is)

pub dropped_at : (s : Setting) (before : History) (h : ℕ) (q : Sequence) → IsRunHistory s before → sequence_on s h before ≡ Some q
    → end_so_far s q before ≡ ends.Dropped → WasTouched s before q
dropped_at s before h q run is drops =
    let p = died_or (has_died q) (left_or_dropped s q (is_inside_at s q.hart before)) drops in
    dropped_so s before h q run is p.0 p.1

-- THE CHECK

-- where no store waits the hart sees memory, and a thread that runs is inside where one that waits would be
inside_is : (here : Here) (t : ℕ) → waiting_here here ≡ [] → is_inside_here here t ≡ is_inside_waiting here t
inside_is here t none =
    let same : view here ≡ memory here = λ i a. sees_memory here a none i in
    ap (λ (byte : ℕ → Option ℕ). is_inside_named (named_over byte here t) (here.file t).pc) same

-- a thread that isn't inside keeps its file
same_file : (here : Here) (t : ℕ) (o : Outcome) → interruption_here here t ≡ o → is_inside_waiting here t ≡ false → file_interrupted here t o ≡ here.file t
same_file here t (comes_to.Aborted at) is outside = absurd (outside_goes_on here (here.file t).pc (area_here here t) at outside is)
same_file here t outcome is outside = refl

-- AN INTERRUPTION

-- the writes of an event, of which the first are those of its interruption of thread t
abbrev EntersFirst : Event → Here → ℕ → Type 0
EntersFirst e here t = (rest : List Write) × (e.done.entered ≡ writes_of (area_here here t) (interruption_here here t) ++ rest)

-- an event interrupts thread t on its hart, where no store waits, and tells what that came to. It ends the process where the check
-- finds something bad, and else only as events of its kind do. Otherwise it writes first what the interruption does and leaves the
-- pointer of the thread's area 0, and the thread goes on with the file that this left it
pub record IsInterrupting (s : Setting) (e : Event) (before : History) (here : Here) (t : ℕ) : Type 0 where
  pub none_waits : waiting_here here ≡ []
  pub told : e.done.interrupted ≡ Some (interruption_here here t)
  pub found : FindsBad here t → e.done.ended ≡ Some (Killed SIGSEGV)
  pub dead : has_killed e ≡ true → IsDeadBy s e.entry.kind e before
  pub entered : has_killed e ≡ false → EntersFirst e here t
  pub null : has_killed e ≡ false → (area : Area) → area_here here t ≡ Some area → IsLeftNull s e.entry.kind e before t area
  pub goes_on : has_killed e ≡ false → (saved : Saved) → file_interrupted here t (interruption_here here t) ≡ saved
      → GoesOnWith s e.entry.kind e before t saved

-- ENDS

-- the end of a sequence of which no event had ended the process
abbrev ending : Setting → Sequence → Bool → Bool → Bool → Bool → Option Outcome → SeqEnd
ending s q died killed moved inside i =
    cond (died || (is_some i && killed) && not (moved && not inside)) ends.Dead (cut_or (left_or_dropped s q inside) inside (abort_of i))

dead_inside : (s : Setting) (q : Sequence) (moved : Bool) (o : Outcome) → ending s q false true moved true (Some o) ≡ ends.Dead
dead_inside s q true o = refl
dead_inside s q false o = refl

outside_uncut : (other : SeqEnd) (at : Option ℕ) → cut_or other false at ≡ other
outside_uncut other None = refl
outside_uncut other (Some at) = refl

ends_outside : (s : Setting) (q : Sequence) (killed moved : Bool) (o : Outcome)
    → ((ending s q false killed moved false (Some o) ≡ ends.Dead) × (killed ≡ true))
    ⊎ (ending s q false killed moved false (Some o) ≡ left_or_dropped s q false)
ends_outside s q true false o = inl (refl, refl)
ends_outside s q b moved o = inr (outside_uncut (left_or_dropped s q false) (abort_of (Some o)))

-- one that is cut is neither left nor dropped
not_left_cut : (at : ℕ) → IsLeftOrDropped (ends.Cut at) → ⊥
not_left_cut at (inl is) = cc
not_left_cut at (inr is) = cc

module _ (s : Setting) (e : Event) (before : History) (q : Sequence) (run : IsRunHistory s (e ∷ before))
    (newest : sequence_on s e.entry.hart.0 before ≡ Some q) (its : IsInterrupting s e before (here_in_history s before e.entry.hart.0) q.thread) where
  abbrev here : Here
  here = place s e before run

  abbrev t : ℕ
  t = q.thread

  there : RunsThroughout s before e.entry.hart.0 q
  there = runs_throughout s before e.entry.hart.0 q run.0 newest

  abbrev outcome : Outcome
  outcome = interruption_here here t

  inside_at_is : is_inside_at s q.hart before ≡ is_inside_waiting here t
  inside_at_is =
      ap (λ k. is_inside_at s k before) there.hart
      ∙ ap (λ r. option_map_or (is_inside_here here) r false) there.now
      ∙ inside_is here t its.none_waits

  lives : has_died q ≡ false
  lives = alive s before e.entry.hart.0 q run.0 newest (neither (ended before) _ (not_over s e before run)).0

  end_is : (killed inside : Bool) → has_killed e ≡ killed → is_inside_waiting here t ≡ inside
      → end_before s q e before ≡ ending s q false killed (moved_out s q) inside (Some outcome)
  end_is killed inside kills_it there_is =
      ap (λ b. ending s q b (has_killed e) (moved_out s q) (is_inside_at s q.hart before) e.done.interrupted) lives
      ∙ ap (λ b. ending s q false b (moved_out s q) (is_inside_at s q.hart before) e.done.interrupted) kills_it
      ∙ ap (λ b. ending s q false killed (moved_out s q) b e.done.interrupted) (inside_at_is ∙ there_is)
      ∙ ap (ending s q false killed (moved_out s q) inside) its.told

  -- the process lives on where no event ended it, and where nothing bad was found
  goes_so : e.done.ended ≡ None → has_killed e ≡ false
  goes_so none = ap (λ (o : Option End). is_some o) none

  found_kills : FindsBad here t → has_killed e ≡ true
  found_kills found = ap (λ (o : Option End). is_some o) (its.found found)

  -- THE PROCESS IS KILLED

  -- what it makes of the sequence, by what the end is
  interrupts : (is_inside_at s q.hart before ≡ true → IsCutOrDead (end_before s q e before))
      → ((at : ℕ) → e.done.interrupted ≡ Some (comes_to.Aborted at) → IsCutOrDead (end_before s q e before))
      → (e.done.ended ≡ None → IsLeftOrDropped (end_before s q e before) → GoesOnWith s e.entry.kind e before t (file s t q.reached))
      → FitsInterruption s e before q
  interrupts inside aborted kept = record {
    inside = inside;
    aborted = aborted;
    kept = kept;
    emptied = λ area goes_on registered. its.null (goes_so goes_on) area registered;
    killed = its.dead;
    caused = its.found;
  }

  by_death : has_killed e ≡ true → end_before s q e before ≡ ends.Dead → EndsWhole s e before q
  by_death killed dead =
      ends_whole_by s e before q (subst (FitsEnd s e before q) (sym dead) (its.dead killed))
      (λ some. interrupts (λ inside. inl dead) (λ at sent. inl dead) (λ goes_on left. absurd (false≢true (sym (goes_so goes_on) ∙ killed))))

  -- INSIDE

  module _ (alive_on : has_killed e ≡ false) (inside : is_inside_waiting here t ≡ true)
      (in_it : InsideOf (memory here) (is_writable here) (area_here here t) (here.file t).pc) (aborts : outcome ≡ comes_to.Aborted in_it.sequence.abort) where
    abbrev abort : ℕ
    abort = in_it.sequence.abort

    first_written : EntersFirst e here t
    first_written = its.entered alive_on

    goes_to_abort : GoesOnWith s e.entry.kind e before t (record (file s t q.reached) { pc = abort })
    goes_to_abort =
        let moved : file_interrupted here t outcome ≡ record (file s t before) { pc = abort } = ap (file_interrupted here t) aborts in
        let same = reached_file s before e.entry.hart.0 q run.0 newest in
        its.goes_on alive_on _ (moved ∙ ap (λ (f : Saved). let g : Saved = record f { pc = abort } in g) same)

    cut_so : IsCutProperly s e before q abort
    cut_so =
        cut_at_handler s e before q abort in_it refl
        (subst (λ ws. Any (λ w. w ≡ Stored (record { at = in_it.area.at + RSEQ_CS; size = 8; value = 0 })) ws) (sym first_written.1)
        (first_cleared (area_here here t) in_it.area outcome abort first_written.0 in_it.registered aborts))
        (its.null alive_on in_it.area in_it.registered) goes_to_abort

    by_cut : EndsWhole s e before q
    by_cut =
        let so : end_before s q e before ≡ ends.Cut abort =
        end_is false true alive_on inside ∙ ap (λ o. ending s q false false (moved_out s q) true (Some o)) aborts in
        ends_whole_by s e before q (subst (FitsEnd s e before q) (sym so) cut_so)
        (λ some. interrupts (λ there_is. inr (abort, so)) (λ at sent. inr (abort, so)) (λ goes_on left. absurd (not_left_cut abort (subst IsLeftOrDropped so left))))

  by_outcome : (killed : Bool) → has_killed e ≡ killed → is_inside_waiting here t ≡ true
      → InsideOf (memory here) (is_writable here) (area_here here t) (here.file t).pc → EndsWhole s e before q
  by_outcome true killed inside in_it = by_death killed (end_is true true killed inside ∙ dead_inside s q (moved_out s q) outcome)
  by_outcome false alive_on inside in_it =
      elim in_it.outcome [
        | inl aborts ↦ by_cut alive_on inside in_it aborts
        | inr bad ↦ absurd (false≢true (sym alive_on ∙ found_kills (found_by here t _ bad)))
      ]

  -- OUTSIDE

  by_left : is_inside_waiting here t ≡ false → end_before s q e before ≡ left_or_dropped s q false → EndsWhole s e before q
  by_left outside so =
      let there_is : is_inside_at s q.hart before ≡ false = inside_at_is ∙ outside in
      let never_sent : (at : ℕ) → e.done.interrupted ≡ Some (comes_to.Aborted at) → ⊥ =
      λ at sent.
      let equal : Some outcome ≡ Some (comes_to.Aborted at) = sym its.told ∙ sent in
      let aborts : outcome ≡ comes_to.Aborted at = cc in
      outside_goes_on here (here.file t).pc (area_here here t) at outside aborts in
      ends_whole_by s e before q (subst (FitsEnd s e before q) (sym so) (fits_outside s e before q run.0 newest lives there_is))
      (λ some. interrupts (λ inside. absurd (false≢true (sym there_is ∙ inside))) (λ at sent. absurd (never_sent at sent))
      (λ goes_on left. its.goes_on (goes_so goes_on) _ (same_file here t outcome refl outside ∙ reached_file s before e.entry.hart.0 q run.0 newest)))

  by_end : (killed : Bool) → has_killed e ≡ killed → is_inside_waiting here t ≡ false
      → ((ending s q false killed (moved_out s q) false (Some outcome) ≡ ends.Dead) × (killed ≡ true))
      ⊎ (ending s q false killed (moved_out s q) false (Some outcome) ≡ left_or_dropped s q false)
      → EndsWhole s e before q
  by_end killed kills_it outside (inl dead) = by_death (kills_it ∙ dead.1) (end_is killed false kills_it outside ∙ dead.0)
  by_end killed kills_it outside (inr left) = by_left outside (end_is killed false kills_it outside ∙ left)

  by_inside : (b : Bool) → is_inside_waiting here t ≡ b → EndsWhole s e before q
  by_inside true inside =
      by_outcome (has_killed e) refl inside (inside_of (memory here) (is_writable here) (area_here here t) (here.file t).pc inside)
  by_inside false outside = by_end (has_killed e) refl outside (ends_outside s q (has_killed e) (moved_out s q) outcome)

  pub ends_whole_interrupted : EndsWhole s e before q
  ends_whole_interrupted = by_inside (is_inside_waiting here t) refl
