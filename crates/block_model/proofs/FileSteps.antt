-- Who sets the file of a thread: the thread by its instruction or its call, an interruption, the handler of a
-- signal, whoever ends its wait, or its parent.
use Rattle.block_model.proofs.Common.{CallDone, Done, EINTR, Effect, End, Event, Here, History, IsRunHistory, Kind, Outcome, Saved, Setting, answered_wait, child_file, done, eqb-true, file, file_among, files_interrupted, here_in_history, interruption_here, is_call, negative, next_number, outcome_of, requeue, runs, with_register, woken_at_exit, ◌≡◌, ℕ, [], ◌∷◌, List, map, refl, sym, ap, ◌∙◌, subst, Bool, true, false, cond, eqb, Some, None}
use Rattle.mach_types.specs.declared.events.Kind.TheVariants as kind
use Rattle.mach_types.specs.declared.sequences.Outcome.TheVariants as comes_to
use Rattle.block_model.proofs.CallEffects.{Bears, Breaks, CallDeed, Ends, Exits, Wakes}
use Rattle.block_model.proofs.CallEffects.EachCall.{deed_called}
use Rattle.block_model.proofs.EventEffects.{Calls, EventDeed, Executes, Handles, IsNext, Restarts, Returns, RunKills, Runs, SignalKills, deed_of}

-- thread u is interrupted where it begins to run, or by a `take` on its hart
pub data IsInterrupted (here : Here) (tid u : ℕ) (k : Kind) : Type 0 where
  AtRun : k ≡ kind.Run → tid ≡ u → IsInterrupted here tid u k
  AtTake : k ≡ kind.Take → runs here ≡ Some u → IsInterrupted here tid u k

-- the file of thread u after an event of this kind that didn't end the process: as it was; set by its
-- instruction; by its call; an answer in a0; at its abort handler; at the handler of a signal; or as its
-- parent's call set it
pub data FileStep (here : Here) (tid u : ℕ) (k : Kind) : Saved → Type 0 where
  FileStays : FileStep here tid u k (here.file u)
  ByInstruction : (e : Effect) → k ≡ kind.Exec → IsNext here u e
      → FileStep here tid u k (record { file = (outcome_of here u e).regs; pc = (outcome_of here u e).pc })
  ByCall : (e : Effect) (f : Saved) → k ≡ kind.Exec → IsNext here u e → is_call e ≡ true
      → FileStep here tid u k f
  Answered : (v : ℕ)
      → FileStep here tid u k (record (here.file u) { file = with_register (here.file u).file 10 v })
  Aborts : (at : ℕ) → IsInterrupted here tid u k → interruption_here here u ≡ comes_to.Aborted at
      → FileStep here tid u k (record (here.file u) { pc = at })
  AtHandler : (f : Saved) → k ≡ kind.Signal → runs here ≡ Some u → FileStep here tid u k f
  AtBirth : (f : Saved) → k ≡ kind.Exec → next_number here.kernel ≡ u → FileStep here tid u k f

module _ (here : Here) (tid u : ℕ) where
  abbrev Is : Kind → Saved → Type 0
  Is k f = FileStep here tid u k f

  -- a file that is set first, where it is that of the thread, or what is set behind it
  either_by : (k : Kind) (t : ℕ) (x rest : Saved) (b : Bool) → eqb t u ≡ b → (t ≡ u → Is k x) → Is k rest
      → Is k (cond b x rest)
  either_by k t x rest true is own other = own (eqb-true t u is)
  either_by k t x rest false is own other = other

  either : (k : Kind) (t : ℕ) (x rest : Saved) → (t ≡ u → Is k x) → Is k rest → Is k (cond (eqb t u) x rest)
  either k t x rest own other = either_by k t x rest (eqb t u) refl own other

  answered : (k : Kind) (v : ℕ) (n : ℕ) → v ≡ u
      → Is k (record (here.file v) { file = with_register (here.file v).file 10 n })
  answered k v n same =
      subst (λ w. Is k (record (here.file w) { file = with_register (here.file w).file 10 n })) (sym same)
      (Answered n)

  woken : (k : Kind) (us : List ℕ) → Is k (file_among (map (answered_wait here) us) u (here.file u))
  woken k [] = FileStays
  woken k (v ∷ us) =
      either k v (answered_wait here v).1 (file_among (map (answered_wait here) us) u (here.file u))
      (answered k v 0) (woken k us)

  interrupted : (k : Kind) (t : ℕ) (o : Outcome) → interruption_here here t ≡ o
      → (t ≡ u → IsInterrupted here tid u k) → Is k (file_among (files_interrupted here t o) u (here.file u))
  interrupted k t (comes_to.Aborted at) is its =
      either k t (record (here.file t) { pc = at }) (here.file u)
      (λ same. subst (λ w. interruption_here here w ≡ comes_to.Aborted at
      → Is k (record (here.file w) { pc = at })) (sym same) (λ aborts. Aborts at (its same) aborts) is)
      FileStays
  interrupted k t outcome is its = FileStays

  -- CALLS

  module _ (t : ℕ) (e : Effect) (next : IsNext here t e) (calls : is_call e ≡ true) where
    own : (f : Saved) → t ≡ u → Is kind.Exec f
    own f same = ByCall e f refl (subst (λ v. IsNext here v e) same next) calls

    only_own : (f : Saved) → Is kind.Exec (cond (eqb t u) f (here.file u))
    only_own f = either kind.Exec t f (here.file u) (own f) FileStays

    step_called : {number : ℕ} {c : CallDone} → CallDeed here t number c
        → Is kind.Exec (file_among c.files u (here.file u))
    step_called (Wakes n more at to listens small) =
        either kind.Exec t _ _ (own _) (woken kind.Exec (requeue n more at to listens here.kernel).threads)
    step_called (Breaks v g waiting keeps stand heeds calm) =
        either kind.Exec t _ _ (own _)
        (either kind.Exec v _ (here.file u) (answered kind.Exec v (negative EINTR.0)) FileStays)
    step_called (Exits more) = woken kind.Exec (woken_at_exit here t).threads
    step_called (Bears entered writes free its_number) =
        either kind.Exec t _ _ (own _)
        (either kind.Exec (next_number here.kernel) (child_file here t) (here.file u)
        (λ same. AtBirth (child_file here t) refl same) FileStays)
    step_called (Ends entered x writes over) = FileStays
    step_called other = only_own _

  -- EVENTS

  never_ended : (x : End) → Some x ≡ None → ⊥
  never_ended x is = cc

  step_deed : {k : Kind} {d : Done} → EventDeed here tid k d → d.ended ≡ None
      → Is k (file_among d.files u (here.file u))
  step_deed (Calls t e next calls outside) goes = step_called t e next calls (deed_called here t)
  step_deed (Executes t e next) goes =
      either kind.Exec t (record { file = (outcome_of here t e).regs; pc = (outcome_of here t e).pc })
      (here.file u)
      (λ same. subst (λ v. IsNext here v e
      → Is kind.Exec (record { file = (outcome_of here v e).regs; pc = (outcome_of here v e).pc })) (sym same)
      (λ its. ByInstruction e refl its) next)
      FileStays
  step_deed (Restarts t at) goes =
      interrupted kind.Take t (interruption_here here t) refl
      (λ same. AtTake refl (subst (λ v. runs here ≡ Some v) same at))
  step_deed (Returns t at) goes =
      either kind.Done t _ (here.file u) (answered kind.Done t 0) FileStays
  step_deed Runs goes = interrupted kind.Run tid (interruption_here here tid) refl (λ same. AtRun refl same)
  step_deed RunKills goes = absurd (never_ended _ goes)
  step_deed (Handles t signal at) goes =
      either kind.Signal t _ (here.file u)
      (λ same. AtHandler _ refl (subst (λ v. runs here ≡ Some v) same at)) FileStays
  step_deed (SignalKills t signal killer at) goes = absurd (never_ended _ goes)
  step_deed deed goes = FileStays

-- EVENTS OF A RUN

step_done : (s : Setting) (e : Event) (before : History) (u : ℕ) → (done s before e.entry).ended ≡ None
    → FileStep (here_in_history s before e.entry.hart.0) e.entry.tid.0 u e.entry.kind
    (file_among (done s before e.entry).files u (file s u before))
unfolding done
step_done s e before u goes =
    let here = here_in_history s before e.entry.hart.0 in
    step_deed here e.entry.tid.0 u (deed_of here e.entry.kind e.entry) goes

pub file_step : (s : Setting) (e : Event) (before : History) (u : ℕ) → IsRunHistory s (e ∷ before)
    → e.done.ended ≡ None
    → FileStep (here_in_history s before e.entry.hart.0) e.entry.tid.0 u e.entry.kind (file s u (e ∷ before))
file_step s e before u run goes =
    subst (λ (x : Event). FileStep (here_in_history s before e.entry.hart.0) e.entry.tid.0 u e.entry.kind
    (file_among x.done.files u (file s u before))) (sym run.2)
    (step_done s e before u (sym (ap (λ (x : Event). x.done.ended) run.2) ∙ goes))
