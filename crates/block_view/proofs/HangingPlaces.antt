-- The acts of sequences that hang, by their index: each is the one that is read by looking back, and of each thread at most one hangs. This
-- holds of runs: a thread that hangs is ready, so that no hart preempts it.
use Rattle.std.proofs.Common.{◌≡◌, ℕ, [], ◌∷◌, ◌&&◌, eqb, slice_get, refl, sym, ap, ◌∙◌, Bool, true, false, cond, Option, Some, None}
use Rattle.std.specs.Option.{option_map_or}
use Rattle.std.proofs.lemmas.Bool.{eqb-true, false≢true}
use Rattle.mach_types.proofs.Laws.{eqb_same}
use Rattle.mach_types.specs.Events.{is_beginning, is_leaving, is_preempt, is_run, nature_of}
use Rattle.mach_types.specs.Kernel.Threads.{is_ready, is_ready_state}
use Rattle.mach_types.specs.declared.events.Entry.{Entry}
use Rattle.mach_types.specs.declared.events.Movement.{Movement}
use Rattle.mach_types.specs.declared.events.Movement.TheVariants.{Stays, Leaves, Begins}
use Rattle.mach_types.specs.declared.threads.ThreadState.{ThreadState}
use Rattle.block_model.specs.Acts.{Sequence, hanging, is_inside_at, sequence_on}
use Rattle.block_model.specs.Acts as acts
use Rattle.block_model.specs.Deciding.{number_of}
use Rattle.block_model.specs.Here.{runs}
use Rattle.block_model.specs.History.{Event, History, here_in_history, kernel, running}
use Rattle.block_model.specs.Run.{IsRunHistory}
use Rattle.block_model.specs.Setting.{Setting}
use Rattle.block_model.proofs.Laws.{leaving_runs, moved_leaving, running_is}
use Rattle.block_view.specs.Acts.{begins_to_run}
use Rattle.block_view.specs.Standing.{Standing, standings}
use Rattle.block_view.specs.Standing.Standing.{Hanging}
use Rattle.block_view.proofs.Logs.{allowed_at, whole_place}
use Rattle.block_view.proofs.Places.{Began, Hangs, Hung, Left, Stood, came, going_is_on, hangs, never_hanging, one_going}

-- WHAT IS PREEMPTED RAN

-- the thread of an event by which one leaves ran on its hart
pub ran : (s : Setting) (e : Event) (before : History) → IsRunHistory s (e ∷ before) → is_preempt e.entry.kind ≡ true
    → running s e.entry.hart.0 before ≡ Some e.entry.tid.0
ran s e before run leaves =
    let here = here_in_history s before e.entry.hart.0 in
    let allowed = allowed_at s e before run in
    leaving_runs e.entry.kind e.entry here leaves allowed.free ∙ ap Some (sym (ap (λ (x : Entry). x.tid.0) allowed.is))

-- a thread that runs isn't ready
runs_not_ready : (s : Setting) (e : Event) (before : History) (t : ℕ) → IsRunHistory s (e ∷ before)
    → running s e.entry.hart.0 before ≡ Some t → is_ready t (kernel s before).threads ≡ true → ⊥
runs_not_ready s e before t run runs ready =
    let k = kernel s before in
    let state = running_is s.limits.harts e.entry.hart.0 t k.threads k.scheduling (allowed_at s e before run).good.kernel.tables runs in
    false≢true (ap (λ (o : Option ThreadState). option_map_or is_ready_state o false) (sym state) ∙ ready)

-- EACH THAT HANGS IS READ BY LOOKING BACK

module _ (s : Setting) (e : Event) (before : History) (q : Sequence) (run : IsRunHistory s (e ∷ before)) where
  -- one whose thread was preempted inside by the event
  left_hangs : is_preempt e.entry.kind ≡ true → e.entry.hart.0 ≡ q.hart → is_inside_at s q.hart before ≡ true → sequence_on s q.hart before ≡ Some q
      → hanging s q.thread (e ∷ before) ≡ Some q
  left_hangs is same inside was =
      let there = (whole_place s before run.0).runs q.hart q was in
      let thread : e.entry.tid.0 ≡ q.thread = ap number_of (sym (ran s e before run is) ∙ ap (λ h. running s h before) same ∙ there.now) in
      ap (λ b. cond b (acts.hanging_after s q.thread e before e.entry.kind (hanging s q.thread before)) (hanging s q.thread before))
      (ap (λ t. eqb t q.thread) thread ∙ eqb_same q.thread)
      ∙ moved_leaving s e before (nature_of e.entry.kind).movement (hanging s q.thread before) is
      ∙ ap (λ h. cond (is_inside_at s h before) (sequence_on s h before) None) same
      ∙ ap (λ b. cond b (sequence_on s q.hart before) None) inside
      ∙ was

  -- one that hung before, and whose thread doesn't begin to run
  not_preempted : is_preempt e.entry.kind ≡ true → e.entry.tid.0 ≡ q.thread → hanging s q.thread before ≡ Some q → ⊥
  not_preempted is own was =
      runs_not_ready s e before q.thread run (ran s e before run is ∙ ap Some own) ((whole_place s before run.0).hangs q.thread q was).ready

  still_by : (m : Movement) → (nature_of e.entry.kind).movement ≡ m → e.entry.tid.0 ≡ q.thread → is_beginning m ≡ false
      → hanging s q.thread before ≡ Some q → acts.hanging_moved s e before m (hanging s q.thread before) ≡ Some q
  still_by Stays is own isnt was = was
  still_by Leaves is own isnt was = absurd (not_preempted (ap is_leaving is) own was)
  still_by Begins is own isnt was = absurd (false≢true (sym isnt))

  run_only : (k b : Bool) → k && b ≡ false → b ≡ true → k ≡ false
  run_only true true both own = both
  run_only true false both own = absurd (false≢true own)
  run_only false b both own = refl

  still_hangs_by : (b : Bool) → eqb e.entry.tid.0 q.thread ≡ b → is_run e.entry.kind && eqb e.entry.tid.0 q.thread ≡ false
      → hanging s q.thread before ≡ Some q
      → cond b (acts.hanging_after s q.thread e before e.entry.kind (hanging s q.thread before)) (hanging s q.thread before) ≡ Some q
  still_hangs_by true own isnt was =
      still_by (nature_of e.entry.kind).movement refl (eqb-true e.entry.tid.0 q.thread own) (run_only (is_run e.entry.kind) (eqb e.entry.tid.0 q.thread) isnt own) was
  still_hangs_by false other isnt was = was

  -- so it hangs still
  still_hangs : begins_to_run q.thread e ≡ false → hanging s q.thread before ≡ Some q → hanging s q.thread (e ∷ before) ≡ Some q
  still_hangs isnt was = still_hangs_by (eqb e.entry.tid.0 q.thread) refl isnt was

-- an act of a sequence that hangs is of the one that hangs of its thread
pub hanging_hangs : (s : Setting) (before : History) (i : ℕ) (q : Sequence) → IsRunHistory s before
    → slice_get (standings s before) i ≡ Some (Hanging q)
    → hanging s q.thread before ≡ Some q
hanging_hangs s [] i q run at = absurd cc
hanging_hangs s (e ∷ before) i q run at = elim (came s e before i (Hanging q) at) [
  | Stood x was is ↦ elim (hangs s e before x q is) [
    | Left same own inside preempts ↦
        left_hangs s e before q run preempts (eqb-true e.entry.hart.0 q.hart own) inside
        (going_is_on s before i q (was ∙ ap Some same))
    | Hung same isnt ↦ still_hangs s e before q run isnt (hanging_hangs s before i q run.0 (was ∙ ap Some same))
  ]
  | Began place begins ↦
      absurd (never_hanging e before q (sequence_on s e.entry.hart.0 before) (sequence_on s e.entry.hart.0 (e ∷ before)) begins)
]

-- OF EACH THREAD AT MOST ONE HANGS

-- a thread that is preempted inside has no other sequence that hangs
not_both : (s : Setting) (e : Event) (before : History) (i : ℕ) (q r : Sequence) → IsRunHistory s (e ∷ before)
    → sequence_on s q.hart before ≡ Some q → e.entry.hart.0 ≡ q.hart → slice_get (standings s before) i ≡ Some (Hanging r) → q.thread ≡ r.thread → ⊥
not_both s e before i q r run going here at same =
    let runs = ((whole_place s before run.0).runs q.hart q going).now in
    let ready = ((whole_place s before run.0).hangs r.thread r (hanging_hangs s before i r run.0 at)).ready in
    runs_not_ready s e before r.thread run (ap (λ h. running s h before) here ∙ runs ∙ ap Some same) ready

module _ (s : Setting) (e : Event) (before : History) (i j : ℕ) (q r : Sequence) (run : IsRunHistory s (e ∷ before)) (same : q.thread ≡ r.thread)
    (rest : slice_get (standings s before) i ≡ Some (Hanging q) → slice_get (standings s before) j ≡ Some (Hanging r) → i ≡ j) where
  both_stood : (x y : Standing) → slice_get (standings s before) i ≡ Some x → slice_get (standings s before) j ≡ Some y
      → Hangs s e before x q → Hangs s e before y r → i ≡ j
  both_stood x y at beside (Left was own inside preempts) (Left is here within leaves) =
      one_going s before i j q r (at ∙ ap Some was) (beside ∙ ap Some is)
      (sym (eqb-true e.entry.hart.0 q.hart own) ∙ eqb-true e.entry.hart.0 r.hart here)
  both_stood x y at beside (Left was own inside preempts) (Hung is isnt) =
      let on = going_is_on s before i q (at ∙ ap Some was) in
      absurd (not_both s e before j q r run on (eqb-true e.entry.hart.0 q.hart own) (beside ∙ ap Some is) same)
  both_stood x y at beside (Hung was isnt) (Left is here within leaves) =
      let on = going_is_on s before j r (beside ∙ ap Some is) in
      absurd (not_both s e before i r q run on (eqb-true e.entry.hart.0 r.hart here) (at ∙ ap Some was) (sym same))
  both_stood x y at beside (Hung was _) (Hung is _) = rest (at ∙ ap Some was) (beside ∙ ap Some is)

-- two acts of sequences that hang of one thread are one
pub one_hanging : (s : Setting) (before : History) (i j : ℕ) (q r : Sequence) → IsRunHistory s before
    → slice_get (standings s before) i ≡ Some (Hanging q) → slice_get (standings s before) j ≡ Some (Hanging r) → q.thread ≡ r.thread → i ≡ j
one_hanging s [] i j q r run here there same = absurd cc
one_hanging s (e ∷ before) i j q r run here there same = elim (came s e before i (Hanging q) here) [
  | Stood x at is ↦ elim (came s e before j (Hanging r) there) [
    | Stood y beside becomes ↦
        both_stood s e before i j q r run same (λ one other. one_hanging s before i j q r run.0 one other same) x y at beside
        (hangs s e before x q is) (hangs s e before y r becomes)
    | Began place begins ↦
        absurd (never_hanging e before r (sequence_on s e.entry.hart.0 before) (sequence_on s e.entry.hart.0 (e ∷ before)) begins)
  ]
  | Began place begins ↦
      absurd (never_hanging e before q (sequence_on s e.entry.hart.0 before) (sequence_on s e.entry.hart.0 (e ∷ before)) begins)
]
