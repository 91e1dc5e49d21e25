-- Which events interrupt a thread, and that a process which one of these ends is ended by a signal.
use Rattle.std.proofs.Common.{◌≡◌, ℕ, ◌&&◌, refl, sym, ap, ◌∙◌, Bool, true, false, cond, not, Option, Some, None, is_none, is_some}
use Rattle.std.proofs.lemmas.Bool.{false≢true}
use Rattle.mach_types.specs.Events.{choice_with}
use Rattle.mach_types.specs.Kernel.Signals.{next_for}
use Rattle.mach_types.specs.declared.events.Entry.{Entry}
use Rattle.mach_types.specs.declared.events.Kind.{Kind}
use Rattle.mach_types.specs.declared.events.Kind.TheVariants as kind
use Rattle.mach_types.specs.declared.sequences.Outcome.{Outcome}
use Rattle.mach_types.specs.declared.sequences.Outcome.TheVariants as comes_to
use Rattle.block_model.specs.Events.{done_of, refusal_of}
use Rattle.block_model.specs.Events.Preempt.{unless_in_barrier}
use Rattle.block_model.specs.Events.Run.{done_killed, done_run_by, done_running, lives_on}
use Rattle.block_model.specs.Events.Signal.{done_next, done_signal_by, handled_unless_killed, kills, refusal_delivery, refusal_signal_by}
use Rattle.block_model.specs.Events.Take.{done_take_by, killed_by}
use Rattle.block_model.specs.Here.{Done, Here, runs}
use Rattle.block_model.specs.Sequences.{interruption_here}
use Rattle.block_model.proofs.Laws.{interrupts_none}
use Rattle.block_view.specs.Passing.{is_killed, would_interrupt}

-- what an event tells of an interruption: whether it made one; and where it did, the process is ended by a signal if at all
record Interrupts (d : Done) (does : Bool) : Type 0 where
  tells : is_some d.interrupted ≡ does
  kills : is_some d.interrupted ≡ true → is_killed d.ended ≡ is_some d.ended

-- one that makes none
none_made : (d : Done) → d.interrupted ≡ None → Interrupts d false
none_made d none = record { tells = ap is_some none; kills = λ made. absurd (false≢true (sym (ap is_some none) ∙ made)) }

-- one of two
either_made : (b does : Bool) (d d' : Done) → Interrupts d does → Interrupts d' does → Interrupts (cond b d d') does
either_made true does d d' one other = one
either_made false does d d' one other = other

module _ (here : Here) where
  -- BARRIERS

  by_signal : (o : Outcome) → is_killed (killed_by o) ≡ is_some (killed_by o)
  by_signal comes_to.Nothing = refl
  by_signal comes_to.Cleared = refl
  by_signal (comes_to.Aborted at) = refl
  by_signal (comes_to.Killed why) = refl

  take_made : (restart : Bool) (running : Option ℕ) → Interrupts (done_take_by here restart running) (restart && not (is_none running))
  take_made false running = none_made (done_take_by here false running) refl
  take_made true None = none_made (done_take_by here true None) refl
  take_made true (Some t) = record { tells = refl; kills = λ _. by_signal (interruption_here here t) }

  -- THREADS AND SIGNALS

  run_made : (t : ℕ) (o : Outcome) → Interrupts (done_run_by here t o) true
  run_made t o =
      either_made (lives_on here t o) true (done_running here t o) (done_killed here t o)
      (record { tells = refl; kills = λ _. refl }) (record { tells = refl; kills = λ _. refl })

  delivery_made : (t signal : ℕ) (o : Outcome) (killer : Option ℕ) → Interrupts (handled_unless_killed here t signal o killer) true
  delivery_made t signal o None = record { tells = refl; kills = λ _. refl }
  delivery_made t signal o (Some killer) = record { tells = refl; kills = λ _. refl }

  next_made : (t : ℕ) (next : Option ℕ) → unless_in_barrier here.awaits (refusal_delivery here next) ≡ None → Interrupts (done_next here t next) true
  next_made t None free = absurd (refused here.awaits free)
    where
      refused : (awaits : Option ℕ) → unless_in_barrier awaits (refusal_delivery here None) ≡ None → ⊥
      refused None is = cc
      refused (Some left) is = cc
  next_made t (Some signal) free =
      delivery_made t signal (interruption_here here t) (kills here t signal (interruption_here here t))

  signal_made : (running : Option ℕ) → refusal_signal_by here running ≡ None → Interrupts (done_signal_by here running) true
  signal_made None free = absurd cc
  signal_made (Some t) free = next_made t (next_for t here.kernel.signals) free

  -- EACH EVENT

  event_made : (k : Kind) (entry : Entry) → refusal_of (choice_with k entry) here ≡ None
      → Interrupts (done_of (choice_with k entry) here) (would_interrupt k here.restart (is_none (runs here)))
  event_made kind.Take entry free = take_made here.restart (runs here)
  event_made kind.Run entry free = run_made entry.tid.0 (interruption_here here entry.tid.0)
  event_made kind.Signal entry free = signal_made (runs here) free
  event_made k entry free = none_made (done_of (choice_with k entry) here) (interrupts_none here (choice_with k entry) refl)

  -- an event interrupts as one of its kind does there
  pub interrupts_as : (entry : Entry) (d : Done) → refusal_of (choice_with entry.kind entry) here ≡ None → d ≡ done_of (choice_with entry.kind entry) here
      → is_some d.interrupted ≡ would_interrupt entry.kind here.restart (is_none (runs here))
  interrupts_as entry d free did = ap (λ (x : Done). is_some x.interrupted) did ∙ (event_made entry.kind entry free).tells

  -- and where it does, it ends the process by a signal if at all
  pub kills_by_signal : (entry : Entry) (d : Done) → refusal_of (choice_with entry.kind entry) here ≡ None → d ≡ done_of (choice_with entry.kind entry) here
      → is_some d.interrupted ≡ true → is_killed d.ended ≡ is_some d.ended
  kills_by_signal entry d free did made =
      ap (λ (x : Done). is_killed x.ended) did
      ∙ (event_made entry.kind entry free).kills (sym (ap (λ (x : Done). is_some x.interrupted) did) ∙ made)
      ∙ sym (ap (λ (x : Done). is_some x.ended) did)
