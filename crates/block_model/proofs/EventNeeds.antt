-- What an allowed event needs, by what it is: a thread that runs on its hart, and that this one waits in
-- no barrier. And what holds of each event by which a thread leaves its hart, of whatever kind.
use Rattle.block_model.proofs.Common.{◌≡◌, ◌||◌, ℕ, Bool, true, false, not, Option, Some, None, refl, [], cond, sym, ap, ◌∙◌, Choice, Entry, Event, Here, History, Kind, Sequence, Setting, Why, choice_with, done_of, done_preempt_by, false≢true, is_inside_at, next_for, number_of, refusal_delivery, refusal_done_by, refusal_exec_by, refusal_of, refusal_preempt_by, refusal_signal_by, runs, sequence_on, thread_in, unless_waiting, waiting_here, nature_of, is_preempt, Maker, Movement, hanging_moved}
use Rattle.mach_types.specs.Events.{is_return, is_run, is_take, kind_of, is_leaving}
use Rattle.mach_types.specs.declared.events.Choice.TheVariants as asked
use Rattle.mach_types.specs.declared.events.Maker.TheVariants.{Thread, Buffer, Kernel}
use Rattle.mach_types.proofs.Laws.{kind_back}
use Rattle.mach_types.specs.declared.events.Kind.TheVariants as kind
use Rattle.mach_types.specs.declared.events.Movement.TheVariants.{Stays, Leaves, Begins}
use Rattle.block_model.proofs.Invariants.Events.{out_of_barrier, none_waits}

-- WHAT AN EVENT NEEDS

-- an instruction does; a store that enters memory doesn't; and an event of the kernel does but for these
abbrev needs_by : Maker → Bool → Bool
needs_by Thread but = true
needs_by Buffer but = false
needs_by Kernel but = not but

abbrev pub needs_thread : Kind → Bool
needs_thread k = needs_by (nature_of k).maker (is_take k || is_run k)

abbrev pub needs_no_barrier : Kind → Bool
needs_no_barrier k = needs_by (nature_of k).maker (is_take k || (is_return k || is_run k))

-- what is refused where no thread runs
some_runs : (refusal : Option ℕ → Option Why) → (refusal None ≡ None → ⊥) → (r : Option ℕ) → refusal r ≡ None
    → (t : ℕ) × (r ≡ Some t)
some_runs refusal never None free = absurd (never free)
some_runs refusal never (Some t) free = (t, refl)

pub has_thread : (c : Choice) (here : Here) → refusal_of c here ≡ None → needs_thread (kind_of c) ≡ true
    → (t : ℕ) × (runs here ≡ Some t)
has_thread asked.Exec here free needs = some_runs (refusal_exec_by here) (λ none. cc) (runs here) free
has_thread asked.Done here free needs = some_runs (refusal_done_by here) (λ none. cc) (runs here) free
has_thread asked.Preempt here free needs = some_runs (refusal_preempt_by here) (λ none. cc) (runs here) free
has_thread asked.Signal here free needs = some_runs (refusal_signal_by here) (λ none. cc) (runs here) free
has_thread c here free needs = absurd (false≢true needs)

-- and where the one that runs waits in a barrier
exec_outside : (here : Here) (r : Option ℕ) → refusal_exec_by here r ≡ None → here.awaits ≡ None
exec_outside here None free = absurd cc
exec_outside here (Some t) free = (out_of_barrier here.awaits _ free).0

preempt_outside : (here : Here) (r : Option ℕ) → refusal_preempt_by here r ≡ None → here.awaits ≡ None
preempt_outside here None free = absurd cc
preempt_outside here (Some t) free = (out_of_barrier here.awaits (unless_waiting (waiting_here here)) free).0

signal_outside : (here : Here) (r : Option ℕ) → refusal_signal_by here r ≡ None → here.awaits ≡ None
signal_outside here None free = absurd cc
signal_outside here (Some t) free = (out_of_barrier here.awaits (refusal_delivery here (next_for t here.kernel.signals)) free).0

pub waits_in_none : (c : Choice) (here : Here) → refusal_of c here ≡ None
    → needs_no_barrier (kind_of c) ≡ true → here.awaits ≡ None
waits_in_none asked.Exec here free needs = exec_outside here (runs here) free
waits_in_none asked.Preempt here free needs = preempt_outside here (runs here) free
waits_in_none asked.Signal here free needs = signal_outside here (runs here) free
waits_in_none c here free needs = absurd (false≢true needs)

-- AN EVENT BY WHICH A THREAD LEAVES

-- an event by which a thread leaves needs one that runs, and is of it
leaving_needs : (k : Kind) → is_preempt k ≡ true → needs_thread k ≡ true
leaving_needs kind.Drain leaves = absurd (false≢true leaves)
leaving_needs kind.Take leaves = absurd (false≢true leaves)
leaving_needs kind.Run leaves = absurd (false≢true leaves)
leaving_needs k leaves = refl

leaving_names : (k : Kind) (x : Entry) (here : Here) → is_preempt k ≡ true
    → thread_in (choice_with k x) here ≡ runs here
leaving_names kind.Run x here leaves = absurd (false≢true leaves)
leaving_names k x here leaves = refl

pub leaving_runs : (k : Kind) (x : Entry) (here : Here) → is_preempt k ≡ true
    → refusal_of (choice_with k x) here ≡ None
    → runs here ≡ Some (number_of (thread_in (choice_with k x) here))
leaving_runs k x here leaves free =
    let its = has_thread (choice_with k x) here free (ap needs_thread (kind_back k x.tid) ∙ leaving_needs k leaves) in
    its.1 ∙ ap (λ r. Some (number_of r)) (sym its.1 ∙ sym (leaving_names k x here leaves))

-- no store waits
stores_where : (here : Here) (r : Option ℕ) → refusal_preempt_by here r ≡ None → waiting_here here ≡ []
stores_where here None free = absurd cc
stores_where here (Some t) free = none_waits (waiting_here here) (out_of_barrier here.awaits (unless_waiting (waiting_here here)) free).1

pub leaving_waits : (k : Kind) (x : Entry) (here : Here) → is_preempt k ≡ true
    → refusal_of (choice_with k x) here ≡ None → waiting_here here ≡ []
leaving_waits kind.Preempt x here leaves free = stores_where here (runs here) free
leaving_waits k x here leaves free = absurd (false≢true leaves)

-- what it does
pub leaving_does : (k : Kind) (x : Entry) (here : Here) (t : ℕ) → is_preempt k ≡ true → runs here ≡ Some t
    → done_of (choice_with k x) here ≡ done_preempt_by here (Some t)
leaving_does kind.Preempt x here t leaves at = ap (done_preempt_by here) at
leaving_does k x here t leaves at = absurd (false≢true leaves)

-- and the sequence in which it was hangs then
pub moved_leaving : (s : Setting) (e : Event) (before : History) (m : Movement) (still : Option Sequence)
    → is_leaving m ≡ true
    → hanging_moved s e before m still ≡ cond (is_inside_at s e.entry.hart.0 before) (sequence_on s e.entry.hart.0 before) None
moved_leaving s e before Stays still leaves = absurd (false≢true leaves)
moved_leaving s e before Leaves still leaves = refl
moved_leaving s e before Begins still leaves = absurd (false≢true leaves)
