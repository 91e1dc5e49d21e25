-- At each place of a block run no thread waits with a signal that can be delivered to it: what calls and events keep of this.
use Rattle.block_model.proofs.Common.{◌≡◌, ◌≢◌, ℕ, List, Bool, true, false, cond, eqb, ◌∷◌, [], Some, None, sym, subst, ◌∙◌, CallDone, Done, Entry, Event, Here, History, IsRunHistory, IsTables, Kernel, Kind, Ready, Running, Setting, Thread, Waiting, Write, argument, call_number, clear_if, clear_of, cleared, clears, clone_child_cleartid, done, had_child, has_flag, here_in_history, keeps_clear, kernel, new_thread, next_for, next_number, option_map, requeue, runs, signals_taken, start_signalling, start_threads, waits, wake, fault_told, anyone}
use Rattle.block_model.proofs.CallEffects.{Answers, Bears, Breaks, CallDeed, ChangesRows, Exits, Leaves, MovesOff, Resumes, Signalled, TableStep, Waits, Wakes}
use Rattle.block_model.proofs.CallEffects.EachCall.{deed_called}
use Rattle.block_model.proofs.SignalsOfWaiters.{AreCalm, next_born, next_gone, next_faulted, next_handled, next_returned, next_taken, waited_before, waited_beside, waited_or_own, waited_other, waited_rows, waited_with}
use Rattle.block_model.proofs.EventEffects.{Calls, EventDeed, Faults, Handles, Preempts, Runs, SignalKills, deed_of}
use Rattle.block_model.proofs.Invariants.Calls.Futexes.{requeue_keeps}
use Rattle.block_model.proofs.Runs.{settled}
use Rattle.block_model.proofs.KernelTables.{waits_elsewhere}
use Rattle.mach_types.specs.Kernel.Threads.{with_woken}

abbrev pub IsCalm : Kernel → Type 0
IsCalm k = AreCalm k.threads k.signals

calm_requeue : (n more at to : ℕ) (listens : ℕ → Bool) (k : Kernel) → IsCalm k → IsCalm (requeue n more at to listens k).kernel
calm_requeue = requeue_keeps (λ a b. IsCalm a → IsCalm b) (λ k calm. calm)
    (λ u k after waiting rest calm. rest (λ w is. calm w (waited_before u w Ready k.threads (λ p no. cc) is)))
    (λ u to k after waiting rest calm. rest (λ w is.
    waited_or_own u w to (with_woken u k.threads) (λ n. next_for n k.signals ≡ None) (calm u waiting)
    (λ was. calm w (waited_before u w Ready k.threads (λ p no. cc) was)) is))

calm_if : (child at : ℕ) (k : Kernel) (b : Bool) → IsCalm k → IsCalm (cond b (cleared child at k) k)
calm_if child at k true calm = λ u is. calm u (waited_rows (clear_if child at) (keeps_clear child at) u k.threads is)
calm_if child at k false calm = calm

module _ (here : Here) (harts : ℕ) (tables : IsTables harts here.kernel.threads here.kernel.scheduling) (calm : IsCalm here.kernel) where
  apart : (t : ℕ) → runs here ≡ Some t → (u : ℕ) → waits here.kernel.threads u → u ≢ t
  apart t at u is = waits_elsewhere harts here.hart t u here.kernel.threads here.kernel.scheduling tables at is

  calm_step : (t number : ℕ) {entered : List Write} {k : Kernel} → runs here ≡ Some t
      → TableStep here t number entered k → IsCalm k
  calm_step t number at (ChangesRows f keeps) = λ u is. calm u (waited_rows f keeps u here.kernel.threads is)
  calm_step t number at Leaves = λ u is. calm u (waited_before t u Ready here.kernel.threads (λ p no. cc) is)
  calm_step t number at (Waits p none its_number) = λ u is.
      waited_or_own t u p here.kernel.threads (λ n. next_for n here.kernel.signals ≡ None) none (calm u) is
  calm_step t number at (MovesOff set below some) = λ u is. calm u (waited_before t u Ready here.kernel.threads (λ p no. cc) is)
  calm_step t number at (Signalled g keeps stand heeds quiet) = λ u is. quiet u (apart t at u is) is (calm u is)
  calm_step t number at step = calm

  calm_deed : (t number : ℕ) {c : CallDone} → runs here ≡ Some t → CallDeed here t number c → IsCalm c.kernel
  calm_deed t number at (Answers n entered k no_error writes step) = calm_step t number at step
  calm_deed t number at (Wakes n more p to listens small) = calm_requeue n more p to listens here.kernel calm
  calm_deed t number at (Breaks u g waiting keeps stand heeds quiet) = λ w is.
      let was = waited_other u w Ready here.kernel.threads (λ p no. cc) is in
      quiet w was.0 (calm w was.1)
  calm_deed t number at (Exits more) = λ u is.
      let n : ℕ = cond (clears here t) 1 0 in
      let then = (wake n (clear_of t here.kernel.threads) anyone here.kernel).kernel in
      let was = waited_with t u then.threads is in
      next_gone t u was.0 then.signals ∙ calm_requeue n 0 (clear_of t here.kernel.threads) 0 anyone here.kernel calm u was.1
  calm_deed t number at (Bears entered writes free its_number) =
      let child = next_number here.kernel in
      calm_if child (argument here t 4) (had_child t here.kernel) (has_flag (argument here t 0) clone_child_cleartid) (λ u is.
      let was = waited_beside u here.kernel.threads tables.threads is in
      next_born child u was.0 t here.kernel.signals ∙ calm u was.1)
  calm_deed t number at (Resumes words is its) = λ u waiting.
      next_returned t u (apart t at u waiting) (Some words) here.kernel.signals ∙ calm u waiting
  calm_deed t number at deed = calm

  calm_event : (tid : ℕ) {k : Kind} {d : Done} → EventDeed here tid k d → IsCalm d.kernel
  calm_event tid (Faults t signal fault handler) = λ u is.
      next_faulted t u (apart t fault.at u is) (fault_told here t signal) here.kernel.signals ∙ calm u is
  calm_event tid (Calls t e next calls outside) = calm_deed t (call_number here t) next.at (deed_called here t)
  calm_event tid (Preempts k t leaves at) = λ u is. calm u (waited_before t u Ready here.kernel.threads (λ p no. cc) is)
  calm_event tid Runs = λ u is. calm u (waited_before tid u (Running (record { 0 = here.hart })) here.kernel.threads (λ p no. cc) is)
  calm_event tid (Handles t signal at) = λ u is.
      let ne = apart t at u is in
      next_handled t signal u (signals_taken here t signal) ne (next_taken t u ne signal here.kernel.signals ∙ calm u is)
  calm_event tid (SignalKills t signal killer at) = λ u is.
      next_taken t u (apart t at u is) signal here.kernel.signals ∙ calm u is
  calm_event tid deed = calm

calm_done : (s : Setting) (before : History) (e : Entry) → IsTables s.limits.harts (kernel s before).threads (kernel s before).scheduling
    → IsCalm (kernel s before) → IsCalm (done s before e).kernel
unfolding done
calm_done s before e tables calm =
    let here = here_in_history s before e.hart.0 in
    calm_event here s.limits.harts tables calm e.tid.0 (deed_of here e.kind e)

-- at the start there is one thread, which is ready
start_calm : AreCalm start_threads start_signalling
start_calm u is = go (eqb 1 u) is.1
  where
    go : (b : Bool) → option_map (λ (th : Thread). th.state) (cond b (Some (new_thread 1)) None) ≡ Some (Waiting is.0) → next_for u start_signalling ≡ None
    go true e = cc
    go false e = cc

pub calm_at : (s : Setting) (before : History) → IsRunHistory s before → IsCalm (kernel s before)
calm_at s [] run = start_calm
calm_at s (e ∷ before) run =
    subst (λ (x : Event). IsCalm x.done.kernel) (sym run.2)
    (calm_done s before e.entry (settled s before run.0).good.kernel.tables (calm_at s before run.0))
