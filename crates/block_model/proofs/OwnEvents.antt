-- What an event leaves of the thread on its own hart, and of that one's area.
use Rattle.block_model.proofs.Common.{Area, CallDone, Done, Effect, Event, Here, History, IsGoodHere, IsRunHistory, Kernel, Kind, Setting, Write, area_of, argument, by_call, call_number, called, choice_of, choice_with, clear_of, cleared, clears, clone_child_cleartid, done, had_child, has_flag, here_in_history, id_of, instruction_gate, is_call, is_held, kernel, left, next_effect, next_fault, next_number, option_or, others_gate, refusal_exec_by, refusal_of, requeue, running, running_on, running_on-with_rows, runs, signalled, waiting_here, wake, words_on, words_written, ◌≡◌, ◌≢◌, ℕ, [], ◌∷◌, ◌⊎◌, inl, inr, List, Option, Some, None, Bool, true, false, cond, length, is_some, refl, sym, ap, ◌∙◌, subst, anyone}
use Rattle.mach_types.proofs.Laws.{area_of-with_area_same, area_of-without_area_same}
use Rattle.mach_types.specs.declared.events.Kind.TheVariants as kind
use Rattle.block_model.proofs.Runs.{allowed_at}
use Rattle.block_model.proofs.CallEffects.{Answers, Bears, Breaks, CallDeed, ChangesRows, Exits, Leaves}
use Rattle.block_model.proofs.CallEffects.{MovesOff, Registers, TableStep, Unregisters, Waits, Wakes}
use Rattle.block_model.proofs.CallEffects.EachCall.{deed_called}
use Rattle.block_model.proofs.EventEffects.{Calls, EventDeed, IsNext, Preempts, RunKills, Runs, deed_of}
use Rattle.block_model.proofs.Invariants.Calls.Cloning.{kept_child, running_child, sound_child}
use Rattle.block_model.proofs.Invariants.Calls.Futexes.{kept_requeue, requeue_keeps}
use Rattle.block_model.proofs.Invariants.Calls.RecordSteps.{kept_signalled, kept_woken}
use Rattle.block_model.proofs.Invariants.Instructions.{call_wants_empty, gates, none_waits}
use Rattle.block_model.proofs.Invariants.Events.{out_of_barrier}
use Rattle.block_model.proofs.KernelCalls.{ended_idle, waited_idle}
use Rattle.block_model.proofs.KernelTables.{left_idle}
use Rattle.block_model.proofs.ReadyFiles.{good_at}

-- CALLS

-- the area of thread t after its call: as before; none; or one that it registered, whose words the call wrote
pub data IsAreaCalled (here : Here) (t : ℕ) (entered : List Write) (after : Kernel) : Type 0 where
  area_kept : area_of t after.areas ≡ area_of t here.kernel.areas → IsAreaCalled here t entered after
  area_gone : area_of t after.areas ≡ None → IsAreaCalled here t entered after
  area_new : (area : Area) → area_of t after.areas ≡ Some area
      → entered ≡ words_written area (words_on here.hart (id_of t here.kernel.ids))
      → IsAreaCalled here t entered after

pub areas_requeued : (n more at to : ℕ) (listens : ℕ → Bool) (k : Kernel) → (requeue n more at to listens k).kernel.areas ≡ k.areas
areas_requeued = requeue_keeps (λ before after. after.areas ≡ before.areas) (λ k. refl)
    (λ u k after waiting same. same) (λ u to k after waiting same. same)

pub areas_cleared : (b : Bool) (t at : ℕ) (k : Kernel) → (cond b (cleared t at k) k).areas ≡ k.areas
areas_cleared true t at k = refl
areas_cleared false t at k = refl

module _ (here : Here) (t number : ℕ) where
  area_step : {entered : List Write} {k : Kernel} → TableStep here t number entered k
      → IsAreaCalled here t entered k
  area_step (Registers area alone none writes) =
      area_new area (area_of-with_area_same t area here.kernel.areas none) writes
  area_step Unregisters = area_gone (area_of-without_area_same t here.kernel.areas)
  area_step step = area_kept refl

  area_called : {c : CallDone} → CallDeed here t number c → IsAreaCalled here t c.entered c.kernel
  area_called (Answers n entered k no_error writes step) = area_step step
  area_called (Wakes n more at to listens small) = area_kept (ap (area_of t) (areas_requeued n more at to listens here.kernel))
  area_called (Exits more) =
      let n : ℕ = cond (clears here t) 1 0 in
      area_gone (area_of-without_area_same t
      (wake n (clear_of t here.kernel.threads) anyone here.kernel).kernel.areas)
  area_called (Bears entered writes free its_number) =
      let asked = has_flag (argument here t 0) clone_child_cleartid in
      let child = had_child t here.kernel in
      area_kept (ap (area_of t) (areas_cleared asked (next_number here.kernel) (argument here t 4) child))
  area_called deed = area_kept refl

-- the thread on hart h is the same, or there is none
abbrev pub StaysOrLeaves : ℕ → Kernel → Kernel → Type 0
StaysOrLeaves h before after =
    (running_on h after.threads ≡ running_on h before.threads) ⊎ (running_on h after.threads ≡ None)

module _ (here : Here) (t number : ℕ) (good : IsGoodHere here) (at : runs here ≡ Some t) where
  abbrev h : ℕ
  h = here.hart

  abbrev harts : ℕ
  harts = here.setting.limits.harts

  abbrev now : Kernel
  now = here.kernel

  left_none : running_on h (left t now).threads ≡ None
  left_none = left_idle harts h t now.threads now.scheduling good.kernel.tables at

  runs_step : {entered : List Write} {k : Kernel} → TableStep here t number entered k → StaysOrLeaves h now k
  runs_step (ChangesRows f keeps) = inl (running_on-with_rows f keeps h now.threads)
  runs_step Leaves = inr left_none
  runs_step (Waits p none its_number) = inr (waited_idle harts h t p now.threads now.scheduling good.kernel.tables at)
  runs_step (MovesOff set below some) = inr left_none
  runs_step step = inl refl

  runs_called : {c : CallDone} → CallDeed here t number c → StaysOrLeaves h now c.kernel
  runs_called (Answers n entered k no_error writes step) = runs_step step
  runs_called (Wakes n more p to listens small) = inl ((kept_requeue here.setting n more p to listens now good.kernel).running h)
  runs_called (Breaks u g waiting keeps stand heeds calm) =
      let kept = kept_signalled here.setting g now good.kernel keeps in
      inl ((kept_woken here.setting u (signalled g now) kept.sound waiting).running h)
  runs_called (Exits more) =
      let n : ℕ = cond (clears here t) 1 0 in
      let address = clear_of t now.threads in
      let then = (wake n address anyone now).kernel in
      let kept = kept_requeue here.setting n 0 address 0 anyone now good.kernel in
      inr (ended_idle harts h t then.threads then.scheduling kept.sound.tables (kept.running h ∙ at))
  runs_called (Bears entered writes free its_number) =
      let sound = sound_child here.setting h t now good.kernel at free in
      inl ((kept_child here t sound).running h ∙ running_child here.setting h t now good.kernel at free h)
  runs_called deed = inl refl

-- EVENTS

-- the area of thread t after an event of its hart: as before; none; or one that was registered, whose words
-- were
-- written, where no store waits
pub data IsAreaAfter (here : Here) (t : ℕ) (d : Done) : Type 0 where
  stays_area : area_of t d.kernel.areas ≡ area_of t here.kernel.areas → IsAreaAfter here t d
  no_area : area_of t d.kernel.areas ≡ None → IsAreaAfter here t d
  new_area : (area : Area) → area_of t d.kernel.areas ≡ Some area
      → d.entered ≡ words_written area (words_on here.hart (id_of t here.kernel.ids))
      → d.executed ≡ [] → waiting_here here ≡ [] → IsAreaAfter here t d

-- the thread on the hart, and the area of thread t
pub record IsOwn (here : Here) (t : ℕ) (d : Done) : Type 0 where
  pub runs : StaysOrLeaves here.hart here.kernel d.kernel
  pub area : IsAreaAfter here t d

some_same : (t u : ℕ) → Some t ≡ Some u → t ≡ u
some_same t u is = cc

never_some : (t : ℕ) → None ≡ Some t → ⊥
never_some t is = cc

-- where a call is made no store waits
none_waits_at : (here : Here) (t : ℕ) (e : Effect) → IsNext here t e → is_call e ≡ true
    → refusal_exec_by here (runs here) ≡ None → waiting_here here ≡ []
none_waits_at here t e next calls free =
    let faults = is_some (next_fault here t) in
    let gate = instruction_gate (length (waiting_here here)) (next_effect here t) faults in
    let held = others_gate (is_held here t) (next_effect here t) in
    let goes : refusal_exec_by here (Some t) ≡ None = sym (ap (refusal_exec_by here) next.at) ∙ free in
    let passes = (gates gate held (out_of_barrier here.awaits (option_or gate held) goes).1).0 in
    let one : instruction_gate (length (waiting_here here)) (Some e) false ≡ None =
    sym (ap (λ o. instruction_gate (length (waiting_here here)) o faults) next.is
    ∙ ap (λ (o : Option ℕ). instruction_gate (length (waiting_here here)) (Some e) (is_some o)) next.none)
    ∙ passes in
    none_waits (waiting_here here) e (call_wants_empty e calls) one

called_area : (here : Here) (t : ℕ) (c : CallDone) → waiting_here here ≡ []
    → IsAreaCalled here t c.entered c.kernel → IsAreaAfter here t (by_call here c)
called_area here t c empty (area_kept same) = stays_area same
called_area here t c empty (area_gone none) = no_area none
called_area here t c empty (area_new area is writes) = new_area area is writes refl empty

module _ (here : Here) (good : IsGoodHere here) (u tid : ℕ) where
  own_deed : {k : Kind} {d : Done} → EventDeed here tid k d → runs here ≡ Some u → k ≢ kind.Run
      → (k ≡ kind.Exec → refusal_exec_by here (runs here) ≡ None) → IsOwn here u d
  own_deed (Calls t e next calls outside) at other free =
      let number = call_number here t in
      let empty = none_waits_at here t e next calls (free refl) in
      let own : IsOwn here t (by_call here (called here t)) = record {
        runs = runs_called here t number good next.at (deed_called here t);
        area = called_area here t (called here t) empty (area_called here t number (deed_called here t));
      } in
      subst (λ v. IsOwn here v (by_call here (called here t))) (some_same t u (sym next.at ∙ at)) own
  own_deed (Preempts k t leaves is) at other free = record
      { runs = inr (left_none here t 0 good is); area = stays_area refl }
  own_deed Runs at other free = absurd (other refl)
  own_deed RunKills at other free = absurd (other refl)
  own_deed deed at other free = record { runs = inl refl; area = stays_area refl }

  -- an idle hart stays so, unless a thread begins to run there
  idle_deed : {k : Kind} {d : Done} → EventDeed here tid k d → runs here ≡ None → k ≢ kind.Run
      → running_on here.hart d.kernel.threads ≡ None
  idle_deed (Calls t e next calls outside) none other = absurd (never_some t (sym none ∙ next.at))
  idle_deed (Preempts k t leaves is) none other = absurd (never_some t (sym none ∙ is))
  idle_deed Runs none other = absurd (other refl)
  idle_deed RunKills none other = absurd (other refl)
  idle_deed deed none other = none

-- EVENTS OF A RUN

module _ (s : Setting) (e : Event) (before : History) (run : IsRunHistory s (e ∷ before))
    (other : e.entry.kind ≢ kind.Run) where
  abbrev own : ℕ
  own = e.entry.hart.0

  abbrev place : Here
  place = here_in_history s before own

  free_at : e.entry.kind ≡ kind.Exec → refusal_exec_by place (runs place) ≡ None
  free_at is =
      sym (ap (λ k. refusal_of (choice_with k e.entry) place) is)
      ∙ (allowed_at s before own (choice_of e.entry) e.entry run.1).free

  own_done : (t : ℕ) → running s own before ≡ Some t → IsOwn place t (done s before e.entry)
  unfolding done
  own_done t at =
      own_deed place (good_at s e before 0 run) t e.entry.tid.0 (deed_of place e.entry.kind e.entry) at other
      free_at

  own_event : (t : ℕ) → running s own before ≡ Some t → IsOwn place t e.done
  own_event t at = subst (λ (x : Event). IsOwn place t x.done) (sym run.2) (own_done t at)

  -- what it leaves of the area of the thread on its hart
  pub own_area : (t : ℕ) → running s own before ≡ Some t → IsAreaAfter place t e.done
  own_area t at = (own_event t at).area

  idle_done : running s own before ≡ None → running_on own (done s before e.entry).kernel.threads ≡ None
  unfolding done
  idle_done none =
      idle_deed place (good_at s e before 0 run) 0 e.entry.tid.0 (deed_of place e.entry.kind e.entry) none
      other

  idle_event : running s own before ≡ None → running s own (e ∷ before) ≡ None
  idle_event none = ap (λ (x : Event). running_on own x.done.kernel.threads) run.2 ∙ idle_done none

  -- a thread that runs on its hart after it ran there before it
  pub ran_before : (t : ℕ) → running s own (e ∷ before) ≡ Some t → running s own before ≡ Some t
  ran_before t now = by_hart (running s own before) refl
    where
      by_own : (u : ℕ) → running s own before ≡ Some u → StaysOrLeaves own (kernel s before) e.done.kernel
          → running s own before ≡ Some t
      by_own u at (inl same) = sym same ∙ now
      by_own u at (inr none) = absurd (never_some t (sym none ∙ now))

      by_hart : (o : Option ℕ) → running s own before ≡ o → running s own before ≡ Some t
      by_hart None at = absurd (never_some t (sym (idle_event at) ∙ now))
      by_hart (Some u) at = by_own u at (own_event u at).runs
