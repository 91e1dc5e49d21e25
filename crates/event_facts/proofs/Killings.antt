-- An event ends its process by a signal exactly where there is a reason to tell; and what code finds of it is told so.
use Rattle.std.proofs.Common.{◌≡◌, ℕ, suc, List, [], ◌∷◌, length, refl, sym, ap, ◌∙◌, subst, Bool, true, false, not, ◌&&◌, cond, leb, Option, Some, None, Ok, is_some}
use Rattle.std.specs.Option.{option_map, option_or, option_to_list}
use Rattle.mach_types.specs.Events.{choice_of, kind_of, nature_of}
use Rattle.mach_types.specs.Kernel.SignalFrames.{can_write_frame}
use Rattle.mach_types.specs.Kernel.Signals.{action_of, has_signal, is_handler, mask_of, next_for, with_fault}
use Rattle.block_model.specs.Events.Exec.{fault_told as told_here}
use Rattle.mach_types.specs.Kernel.Threads.{is_stuck}
use Rattle.mach_types.specs.declared.events.Choice.{Choice}
use Rattle.mach_types.specs.declared.events.Choice.TheVariants as asked
use Rattle.mach_types.specs.declared.events.Entry.{Entry}
use Rattle.mach_types.specs.declared.limits.End.{End}
use Rattle.mach_types.specs.declared.limits.End.TheVariants as over
use Rattle.mach_types.specs.declared.sequences.Outcome.{Outcome}
use Rattle.mach_types.specs.declared.sequences.Outcome.TheVariants as comes_to
use Rattle.mach_types.specs.declared.signals.TheConstants.{SIGSEGV}
use Rattle.mach_types.specs.declared.user_memory.Store.{Store}
use Rattle.rv_inst.specs.Class.{is_call}
use Rattle.rv_inst.specs.declared.effects.Effect.{Effect}
use Rattle.block_model.specs.Calls.{called}
use Rattle.block_model.specs.Calls.Answers.{call_number, killed_in_call}
use Rattle.block_model.specs.Deciding.{decide, end_of, end_unless, event, number_of}
use Rattle.block_model.specs.Events.{done_of, refusal_of}
use Rattle.block_model.specs.Events.Drain.{done_drain_of}
use Rattle.block_model.specs.Events.Exec.{by_call, by_effect, by_fault, by_outcome, called_here, done_exec_by, next_effect, next_fault, one_instruction, outcome_of}
use Rattle.block_model.specs.Events.Finish.{done_done_by}
use Rattle.block_model.specs.Events.Preempt.{done_preempt_by}
use Rattle.block_model.specs.Events.Run.{done_killed, done_run_by, done_running}
use Rattle.block_model.specs.Events.Signal.{done_delivery, done_next, done_signal_by, file_interrupted, handled_unless_killed}
use Rattle.block_model.specs.Events.Take.{done_take_by, killed_by}
use Rattle.block_model.specs.Here.{Done, Here, is_writable, runs, waiting_here}
use Rattle.block_model.specs.History.{Event, History, ended, here_in_history, kernel}
use Rattle.block_model.specs.Kernel.{signalled}
use Rattle.block_model.specs.Sequences.{area_here, can_write_words, interruption_here, is_inside_here}
use Rattle.block_model.specs.Setting.{Setting}
use Rattle.block_model.proofs.Laws.{allowed_at, has_thread, interrupts_none, needs_thread}
use Rattle.fact_types.specs.declared.facts.Fact.{Fact}
use Rattle.fact_types.specs.declared.facts.Fact.TheVariants.{Killed}
use Rattle.fact_types.specs.declared.killing.KillWhy.{KillWhy}
use Rattle.fact_types.specs.declared.killing.KillWhy.TheVariants.{AreaWords, CallInside, FrameNotWritable, Masked, NoHandler}
use Rattle.event_facts.specs.Killing.{IsReason, call_kills, called_kills, came_bad, delivery_kills, fault_kills, found_bad, instruction_kills, is_killed, killed_facts, killing, killing_of, kills, kills_by, told_at, unhandled, unwritable_words}
use Rattle.event_facts.proofs.Due.{what_is_done}
use Rattle.event_facts.proofs.KillingCalls.{told_called}

module _ (here : Here) where
  -- an event that does this, of which this is why it kills
  abbrev Tells : Done → Option KillWhy → Type 0
  Tells d why = kills d.ended ≡ is_some why

  -- INSTRUCTIONS

  of_fault : (t signal : ℕ) → Tells (by_fault here t signal) (fault_kills t signal here.kernel.signals)
  of_fault t signal = go (has_signal (mask_of t here.kernel.signals) signal) (is_handler (action_of signal here.kernel.signals))
    where
      go : (masked handled : Bool)
          → Tells
          (cond (not masked && handled)
          (record (one_instruction here) { kernel = signalled (with_fault t (told_here here t signal) here.kernel.signals) here.kernel })
          (record (one_instruction here) { ended = Some (over.Killed signal) }))
          (cond masked (Some Masked) (cond (not handled) (Some NoHandler) None))
      go true handled = refl
      go false true = refl
      go false false = refl

  of_call : (t : ℕ) (inside : Bool)
      → Tells (by_call here (cond inside (killed_in_call here) (called here t))) (cond inside (Some CallInside) (call_kills here t (call_number here t)))
  of_call t true = refl
  of_call t false = told_called here t

  of_effect : (t : ℕ) (fault : Option ℕ) (o : Option Effect) → Tells (by_effect here t fault o) (instruction_kills here t fault o)
  of_effect t (Some signal) o = of_fault t signal
  of_effect t None None = refl
  of_effect t None (Some e) = go (is_call e)
    where
      go : (b : Bool)
          → Tells (cond b (by_call here (called_here here t)) (by_outcome here t (outcome_of here t e)))
          (cond b (called_kills here t (call_number here t)) None)
      go true = of_call t (is_inside_here here t)
      go false = refl

  -- EVENTS OF THE KERNEL

  -- a thread begins to run, whose interruption came to this, and the words of whose area can be written or can't
  begins_by : (t : ℕ) (o : Outcome) (can_write : Bool) → found_bad o ≡ None
      → Tells (cond can_write (done_running here t o) (done_killed here t o))
      (option_or (came_bad (cond can_write (done_running here t o) (done_killed here t o)).interrupted) (cond can_write None (Some AreaWords)))
  begins_by t o true none = ap (λ x. is_some (option_or x None)) (sym none)
  begins_by t o false none = ap (λ x. is_some (option_or x (Some AreaWords))) (sym none)

  begins : (t : ℕ) (o : Outcome)
      → Tells (done_run_by here t o) (option_or (came_bad (done_run_by here t o).interrupted) (unwritable_words here (area_here here t)))
  begins t comes_to.Nothing = begins_by t comes_to.Nothing (can_write_words here (area_here here t)) refl
  begins t comes_to.Cleared = begins_by t comes_to.Cleared (can_write_words here (area_here here t)) refl
  begins t (comes_to.Aborted at) = begins_by t (comes_to.Aborted at) (can_write_words here (area_here here t)) refl
  begins t (comes_to.Killed why) = refl

  -- requests are taken
  takes : (restart : Bool) (r : Option ℕ) → Tells (done_take_by here restart r) (option_or (came_bad (done_take_by here restart r).interrupted) None)
  takes false r = refl
  takes true None = refl
  takes true (Some t) = go (interruption_here here t)
    where
      go : (o : Outcome) → kills (killed_by o) ≡ is_some (option_or (found_bad o) None)
      go comes_to.Nothing = refl
      go comes_to.Cleared = refl
      go (comes_to.Aborted at) = refl
      go (comes_to.Killed why) = refl

  -- a signal is delivered to a thread whose interruption came to this: it has a handler or none, and a frame can be written or can't
  delivers_by : (t signal : ℕ) (o : Outcome) (handled can_write : Bool) → found_bad o ≡ None
      → Tells (handled_unless_killed here t signal o (cond (not handled) (Some signal) (cond (not can_write) (Some SIGSEGV) None)))
      (option_or
      (came_bad (handled_unless_killed here t signal o (cond (not handled) (Some signal) (cond (not can_write) (Some SIGSEGV) None))).interrupted)
      (cond (not handled) (Some NoHandler) (cond (not can_write) (Some FrameNotWritable) None)))
  delivers_by t signal o true true none = ap (λ x. is_some (option_or x None)) (sym none)
  delivers_by t signal o true false none = ap (λ x. is_some (option_or x (Some FrameNotWritable))) (sym none)
  delivers_by t signal o false can_write none = ap (λ x. is_some (option_or x (Some NoHandler))) (sym none)

  delivers_this : (t signal : ℕ) (o : Outcome)
      → Tells (done_delivery here t signal o)
      (option_or (came_bad (done_delivery here t signal o).interrupted)
      (unhandled (can_write_frame (is_writable here) (action_of signal here.kernel.signals) (file_interrupted here t o)) signal here.kernel.signals))
  delivers_this t signal o = by o
    where
      handled : Bool
      handled = is_handler (action_of signal here.kernel.signals)

      writes : Outcome → Bool
      writes x = can_write_frame (is_writable here) (action_of signal here.kernel.signals) (file_interrupted here t x)

      by : (x : Outcome)
          → Tells (done_delivery here t signal x)
          (option_or (came_bad (done_delivery here t signal x).interrupted) (unhandled (writes x) signal here.kernel.signals))
      by comes_to.Nothing = delivers_by t signal comes_to.Nothing handled (writes comes_to.Nothing) refl
      by comes_to.Cleared = delivers_by t signal comes_to.Cleared handled (writes comes_to.Cleared) refl
      by (comes_to.Aborted at) = delivers_by t signal (comes_to.Aborted at) handled (writes (comes_to.Aborted at)) refl
      by (comes_to.Killed why) = refl

  delivers : (t : ℕ) (next : Option ℕ)
      → Tells (done_next here t next) (option_or (came_bad (done_next here t next).interrupted) (delivery_kills here t next))
  delivers t None = refl
  delivers t (Some signal) = delivers_this t signal (interruption_here here t)

  -- ANY EVENT

  drains : (ws : List Store) → kills (done_drain_of here ws).ended ≡ false
  drains [] = refl
  drains (w ∷ ws) = refl

  -- where it interrupts no thread, by what else kills
  uninterrupted : (c : Choice) (t : ℕ) (d : Done) → (done_of c here).interrupted ≡ None → Tells d (kills_by (nature_of (kind_of c)).interruption c here t)
      → Tells d (killing_of c here (Some t))
  uninterrupted c t d none told = told ∙ ap (λ o. is_some (option_or (came_bad o) (kills_by (nature_of (kind_of c)).interruption c here t))) (sym none)

  of_exec : (r : Option ℕ) → Tells (done_exec_by here r) (killing_of asked.Exec here r)
  of_exec None = refl
  of_exec (Some t) =
      uninterrupted asked.Exec t (done_exec_by here (Some t)) (interrupts_none here asked.Exec refl) (of_effect t (next_fault here t) (next_effect here t))

  of_drain : (r : Option ℕ) → Tells (done_of asked.Drain here) (killing_of asked.Drain here r)
  of_drain None = drains (waiting_here here)
  of_drain (Some t) = uninterrupted asked.Drain t (done_of asked.Drain here) (interrupts_none here asked.Drain refl) (drains (waiting_here here))

  of_return : (r : Option ℕ) → Tells (done_done_by here r) (killing_of asked.Done here r)
  of_return None = refl
  of_return (Some t) = uninterrupted asked.Done t (done_done_by here (Some t)) (interrupts_none here asked.Done refl) refl

  of_preempt : (r : Option ℕ) → Tells (done_preempt_by here r) (killing_of asked.Preempt here r)
  of_preempt None = refl
  of_preempt (Some t) = uninterrupted asked.Preempt t (done_preempt_by here (Some t)) (interrupts_none here asked.Preempt refl) refl

  of_take : (restart : Bool) (r : Option ℕ) → here.restart ≡ restart → runs here ≡ r → Tells (done_take_by here restart r) (killing_of asked.Take here r)
  of_take false None asks on = refl
  of_take true None asks on = refl
  of_take restart (Some t) asks on =
      takes restart (Some t) ∙ (λ i. is_some (option_or (came_bad (done_take_by here (sym asks i) (sym on i)).interrupted) None))

  of_signal : (r : Option ℕ) → runs here ≡ r → Tells (done_signal_by here r) (killing_of asked.Signal here r)
  of_signal None on = refl
  of_signal (Some t) on =
      delivers t (next_for t here.kernel.signals)
      ∙ ap (λ q. is_some (option_or (came_bad (done_signal_by here q).interrupted) (delivery_kills here t (next_for t here.kernel.signals)))) (sym on)

  pub kills_told : (c : Choice) → Tells (done_of c here) (killing c here)
  kills_told asked.Exec = of_exec (runs here)
  kills_told asked.Drain = of_drain (runs here)
  kills_told asked.Take = of_take here.restart (runs here) refl refl
  kills_told asked.Done = of_return (runs here)
  kills_told asked.Preempt = of_preempt (runs here)
  kills_told (asked.Run u) = begins u.0 (interruption_here here u.0)
  kills_told asked.Signal = of_signal (runs here) refl

  -- one that doesn't kill
  pub none_killed : (c : Choice) → (done_of c here).ended ≡ None → killed_facts c here ≡ []
  none_killed c goes = go (killing c here) (sym (kills_told c) ∙ ap kills goes)
    where
      go : (why : Option KillWhy) → is_some why ≡ false → option_to_list (option_map Killed why) ≡ []
      go None is = refl
      go (Some why) is = absurd cc

  -- the thread of an entry that is due runs
  pub runs_there : (c : Choice) (t : ℕ) → refusal_of c here ≡ None → needs_thread (kind_of c) ≡ true → t ≡ number_of (runs here) → runs here ≡ Some t
  runs_there c t free needs is =
      let on = has_thread c here free needs in
      on.1 ∙ ap Some (sym (is ∙ ap number_of on.1))

-- WHAT CODE TELLS

-- a run that goes on had no event that ended it
none_over : (o p : Option End) → option_or o p ≡ None → o ≡ None
none_over None p goes = refl
none_over (Some e) p goes = absurd cc

-- whether a run is ended by a signal where an event was made before which it went on: whether that event did so
ended_by : (s : Setting) (made : ℕ) (o p : Option End) → p ≡ None → (stuck : Bool)
    → is_killed (end_unless s made (option_or (option_or o p) (cond stuck (Some over.Stuck) None))) ≡ kills o
ended_by s made (Some e) p goes stuck = refl
ended_by s made None (Some e) goes stuck = absurd cc
ended_by s made None None goes true = refl
ended_by s made None None goes false = go (leb s.limits.steps made)
  where
    go : (b : Bool) → is_killed (cond b over.Limit over.Unended) ≡ false
    go true = refl
    go false = refl

killed_end : (s : Setting) (e : Event) (before : History) → ended before ≡ None → is_killed (end_of s (e ∷ before)) ≡ kills e.done.ended
unfolding end_of
killed_end s e before goes = ended_by s (suc (length before)) e.done.ended (ended before) goes (is_stuck (kernel s (e ∷ before)).threads)

told_by : (found why : Option KillWhy) (b : Bool) → IsReason found why → b ≡ is_some why
    → cond b (option_to_list (option_map Killed found)) [] ≡ option_to_list (option_map Killed why)
told_by found None false reason is = refl
told_by found None true reason is = absurd cc
told_by found (Some why) true reason is = ap (λ (o : Option KillWhy). option_to_list (option_map Killed o)) reason
told_by found (Some why) false reason is = absurd cc

pub killed_told : (s : Setting) (before : History) (entry : Entry) (found : Option KillWhy)
    → decide s before entry.hart.0 (choice_of entry) ≡ Ok entry
    → IsReason found (killing (choice_of entry) (here_in_history s before entry.hart.0))
    → told_at (end_of s (event s before entry ∷ before)) found ≡ killed_facts (choice_of entry) (here_in_history s before entry.hart.0)
killed_told s before entry found decided reason =
    let here = here_in_history s before entry.hart.0 in
    let a = allowed_at s before entry.hart.0 (choice_of entry) entry decided in
    told_by found (killing (choice_of entry) here) (is_killed (end_of s (event s before entry ∷ before))) reason
    (killed_end s (event s before entry) before (none_over (ended before) (cond (is_stuck (kernel s before).threads) (Some over.Stuck) None) a.goes)
    ∙ ap (λ (d : Done). kills d.ended) (what_is_done s before entry)
    ∙ kills_told here (choice_of entry))
