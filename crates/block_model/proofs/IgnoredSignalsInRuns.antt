-- At each place of a block run no signal is pending that its action ignores: what calls and events keep of this.
use Rattle.block_model.proofs.Common.{ℕ, List, Bool, true, false, not, cond, ◌∷◌, [], Some, sym, subst, CallDone, Done, Entry, Event, Here, History, IsRunHistory, Kernel, Kind, Setting, Write, action_of, and_parts, argument, call_number, clear_of, cleared, clears, clone_child_cleartid, done, had_child, has_flag, has_signal, here_in_history, is_handler, kernel, mask_of, next_number, requeue, signals_taken, wake, fault_told, anyone}
use Rattle.block_model.proofs.CallEffects.{Answers, Bears, Breaks, CallDeed, Exits, Resumes, Signalled, TableStep, Wakes}
use Rattle.block_model.proofs.CallEffects.EachCall.{deed_called}
use Rattle.block_model.proofs.EventEffects.{Calls, EventDeed, Faults, Handles, SignalKills, deed_of}
use Rattle.block_model.proofs.Invariants.Calls.Futexes.{requeue_keeps}
use Rattle.block_model.proofs.IgnoredSignals.{AllHeeded, handler_heeds, heeded_child, heeded_gone, heeded_faulted, heeded_handled, heeded_returned, heeded_start, heeded_taken}

heeded_requeue : (n more at to : ℕ) (listens : ℕ → Bool) (k : Kernel) → AllHeeded k.signals → AllHeeded (requeue n more at to listens k).kernel.signals
heeded_requeue =
    requeue_keeps (λ a b. AllHeeded a.signals → AllHeeded b.signals) (λ k all. all) (λ u k after waiting rest all. rest all)
    (λ u to k after waiting rest all. rest all)

heeded_if : (child at : ℕ) (k : Kernel) (b : Bool) → AllHeeded k.signals → AllHeeded (cond b (cleared child at k) k).signals
heeded_if child at k true all = all
heeded_if child at k false all = all

module _ (here : Here) (t number : ℕ) (all : AllHeeded here.kernel.signals) where
  heeded_step : {entered : List Write} {k : Kernel} → TableStep here t number entered k → AllHeeded k.signals
  heeded_step (Signalled g keeps stand heeds calm) = heeds all
  heeded_step step = all

  heeded_deed : {c : CallDone} → CallDeed here t number c → AllHeeded c.kernel.signals
  heeded_deed (Answers n entered k no_error writes step) = heeded_step step
  heeded_deed (Wakes n more at to listens small) = heeded_requeue n more at to listens here.kernel all
  heeded_deed (Breaks u g waiting keeps stand heeds calm) = heeds all
  heeded_deed (Exits more) =
      let n : ℕ = cond (clears here t) 1 0 in
      let at = clear_of t here.kernel.threads in
      heeded_gone t (wake n at anyone here.kernel).kernel.signals (heeded_requeue n 0 at 0 anyone here.kernel all)
  heeded_deed (Bears entered writes free its_number) =
      heeded_if (next_number here.kernel) (argument here t 4) (had_child t here.kernel) (has_flag (argument here t 0) clone_child_cleartid)
      (heeded_child t (next_number here.kernel) here.kernel.signals all)
  heeded_deed (Resumes words is its) = heeded_returned t (Some words) here.kernel.signals all
  heeded_deed deed = all

module _ (here : Here) (tid : ℕ) (all : AllHeeded here.kernel.signals) where
  heeded_event : {k : Kind} {d : Done} → EventDeed here tid k d → AllHeeded d.kernel.signals
  heeded_event (Faults t signal fault handler) =
      let g = here.kernel.signals in
      let is = (and_parts (not (has_signal (mask_of t g) signal)) (is_handler (action_of signal g)) handler).1 in
      heeded_faulted t (fault_told here t signal) g (handler_heeds signal (action_of signal g) is) all
  heeded_event (Calls t e next calls outside) = heeded_deed here t (call_number here t) all (deed_called here t)
  heeded_event (Handles t signal at) = heeded_handled t signal (signals_taken here t signal) (heeded_taken t signal here.kernel.signals all)
  heeded_event (SignalKills t signal killer at) = heeded_taken t signal here.kernel.signals all
  heeded_event deed = all

heeded_done : (s : Setting) (before : History) (e : Entry) → AllHeeded (kernel s before).signals → AllHeeded (done s before e).kernel.signals
unfolding done
heeded_done s before e all = heeded_event (here_in_history s before e.hart.0) e.tid.0 all (deed_of (here_in_history s before e.hart.0) e.kind e)

pub heeded_at : (s : Setting) (before : History) → IsRunHistory s before → AllHeeded (kernel s before).signals
heeded_at s [] run = heeded_start
heeded_at s (e ∷ before) run =
    subst (λ (x : Event). AllHeeded x.done.kernel.signals) (sym run.2) (heeded_done s before e.entry (heeded_at s before run.0))
