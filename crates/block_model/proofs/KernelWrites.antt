-- What the kernel writes it writes where its pages say that it may: in a call, and in an event that is no instruction and no entering of
-- a store. So none of it lies where there is no page.
use Rattle.block_model.proofs.Common.{◌≡◌, ◌≢◌, ℕ, Bool, true, false, not, cond, Option, Some, None, refl, Area, CallDone, Choice, Done, Here, Kind, Outcome, SIGSEGV, Words, action_of, are_words_writable, area_here, call_number, called, called_here, can_write_frame, cond_both, done_killed, done_next, done_of, done_running, done_signal_by, file_interrupted, frame_writes, handled_unless_killed, interruption_here, is_handler, is_inside_here, is_writable, killed_in_call, kills, mask_of, memory, next_for, next_id, runs, words_entered, words_on, words_to, writes_of, fault_of}
use Rattle.mach_types.specs.declared.events.Choice.TheVariants as asked
use Rattle.mach_types.specs.declared.events.Kind.TheVariants as kind
use Rattle.mach_types.specs.declared.sequences.Outcome.TheVariants as comes_to
use Rattle.block_model.proofs.CallEffects.{CallDeed, Answers, Bears, Ends, Exits}
use Rattle.block_model.proofs.CallEffects.EachCall.{deed_called}
use Rattle.block_model.proofs.CallEffects.Ending.{cleared_writable}
use Rattle.block_model.proofs.EventEffects.{CallKills, Calls as MakesCall, Drains, EventDeed, Executes, Handles, Restarts, RunKills, Runs, SignalKills, begun_by, deed_chosen}
use Rattle.block_model.proofs.WritableBytes.{AllWritable, area_writable, both_writable, frame_writable, interruption_writable}

-- A CALL

module _ (here : Here) (t number : ℕ) where
  deed_writes : {c : CallDone} → CallDeed here t number c → AllWritable (is_writable here) c.entered
  deed_writes (Answers n entered k no_error writes step) = writes
  deed_writes (Exits more) = cleared_writable here t
  deed_writes (Bears entered writes free its_number) = writes
  deed_writes (Ends entered e writes over) = writes
  deed_writes deed = tt

pub call_writes : (here : Here) (t : ℕ) → AllWritable (is_writable here) (called_here here t).entered
call_writes here t =
    cond_both (is_inside_here here t) (killed_in_call here) (called here t) (λ (c : CallDone). AllWritable (is_writable here) c.entered)
    (λ inside. tt) (λ outside. deed_writes here t (call_number here t) (deed_called here t))

-- ANOTHER EVENT

-- a handler is entered only where its frame can be written
unhandled : (handler frame : Bool) (signal : ℕ) → cond (not handler) (Some signal) (cond (not frame) (Some SIGSEGV) None) ≡ None → frame ≡ true
unhandled true true signal is = refl
unhandled b frame signal is = cc

module _ (here : Here) (t : ℕ) where
  abbrev came_to : Outcome
  came_to = interruption_here here t

  interrupted : AllWritable (is_writable here) (writes_of (area_here here t) (interruption_here here t))
  interrupted = interruption_writable (is_writable here) (memory here) (area_here here t) (here.file t).pc

  may_enter : (signal : ℕ) (o : Outcome) → kills here t signal o ≡ None
      → can_write_frame (is_writable here) (action_of signal here.kernel.signals) (file_interrupted here t o) ≡ true
  may_enter signal (comes_to.Killed why) is = cc
  may_enter signal outcome is = unhandled (is_handler (action_of signal here.kernel.signals)) _ signal is

  on_delivery : (signal : ℕ) (killer : Option ℕ) → kills here t signal came_to ≡ killer
      → AllWritable (is_writable here) (handled_unless_killed here t signal came_to killer).entered
  on_delivery signal None is =
      let file = file_interrupted here t came_to in
      let g = here.kernel.signals in
      let a = action_of signal g in
      let mask = mask_of t g in
      both_writable (is_writable here) (writes_of (area_here here t) came_to) (frame_writes signal a (fault_of t signal g) file mask) interrupted
      (frame_writable (is_writable here) signal a (fault_of t signal g) file mask (may_enter signal came_to is))
  on_delivery signal (Some killer) is = interrupted

  on_next : (next : Option ℕ) → AllWritable (is_writable here) (done_next here t next).entered
  on_next None = tt
  on_next (Some signal) = on_delivery signal (kills here t signal came_to) refl

  words_made : (area : Area) (words : Words) (made : Bool) → are_words_writable (is_writable here) area ≡ made
      → AllWritable (is_writable here) (words_entered made area words)
  words_made area words true is = area_writable (is_writable here) area words is
  words_made area words false is = tt

  words_told : (o : Option Area) (words : Words) → AllWritable (is_writable here) (words_to here o words)
  words_told None words = tt
  words_told (Some area) words = words_made area words (are_words_writable (is_writable here) area) refl

  on_run : (lives : Bool) → AllWritable (is_writable here) (cond lives (done_running here t came_to) (done_killed here t came_to)).entered
  on_run true =
      let words = words_on here.hart (next_id here.kernel.ids) in
      both_writable (is_writable here) (writes_of (area_here here t) came_to) (words_to here (area_here here t) words) interrupted
      (words_told (area_here here t) words)
  on_run false = interrupted

on_signal : (here : Here) (r : Option ℕ) → AllWritable (is_writable here) (done_signal_by here r).entered
on_signal here None = tt
on_signal here (Some t) = on_next here t (next_for t here.kernel.signals)

event_deed_writes : (here : Here) (tid : ℕ) {k : Kind} {d : Done} → EventDeed here tid k d → k ≢ kind.Exec → k ≢ kind.Drain → k ≢ kind.Signal
    → AllWritable (is_writable here) d.entered
event_deed_writes here tid (CallKills t e next calls) no_exec no_drain no_signal = absurd (no_exec refl)
event_deed_writes here tid (MakesCall t e next calls outside) no_exec no_drain no_signal = absurd (no_exec refl)
event_deed_writes here tid (Executes t e next) no_exec no_drain no_signal = absurd (no_exec refl)
event_deed_writes here tid (Drains w ws waits) no_exec no_drain no_signal = absurd (no_drain refl)
event_deed_writes here tid (Restarts t at) no_exec no_drain no_signal = interrupted here t
event_deed_writes here tid Runs no_exec no_drain no_signal = on_run here tid true
event_deed_writes here tid RunKills no_exec no_drain no_signal = on_run here tid false
event_deed_writes here tid (Handles t signal at) no_exec no_drain no_signal = absurd (no_signal refl)
event_deed_writes here tid (SignalKills t signal killer at) no_exec no_drain no_signal = absurd (no_signal refl)
event_deed_writes here tid deed no_exec no_drain no_signal = tt

pub event_writes : (here : Here) (c : Choice) → c ≢ asked.Exec → c ≢ asked.Drain → AllWritable (is_writable here) (done_of c here).entered
event_writes here asked.Exec no_exec no_drain = absurd (no_exec refl)
event_writes here asked.Drain no_exec no_drain = absurd (no_drain refl)
event_writes here asked.Signal no_exec no_drain = on_signal here (runs here)
event_writes here c no_exec no_drain = event_deed_writes here (begun_by c) (deed_chosen here c) (λ e. cc) (λ e. cc) (λ e. cc)
