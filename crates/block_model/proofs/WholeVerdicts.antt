-- What `run` makes of a sequence that hangs: the process ends, or the sequence is cut, or it was dropped; and its thread isn't inside
-- any more.
use Rattle.block_model.proofs.Common.{◌≡◌, ℕ, ◌+◌, List, [], ◌∷◌, ◌++◌, drop, refl, sym, ap, ◌∙◌, subst, Bool, true, false, cond, Option, Some, None, Any, is_some, inl, inr, Area, Done, Event, GoesOnWith, HasCause, Here, History, IsCutProperly, IsDeadBy, IsLeftNull, IsRunHistory, Outcome, Plain, RSEQ_CS, Saved, Sequence, Setting, Store, Stored, abort_of, area_here, area_of, cut_or, done_killed, done_run, done_running, end_at_verdict, eqb_same, false≢true, file, file_among, files_interrupted, hanging, has_killed, here_in_history, interruption_here, is_inside_at, is_inside_here, is_inside_waiting, is_ready, is_writable, lives_on, memory, option_map_or, pointer_of, running, running_on, runs, view, waiting, word_at, SeqEnd}
use Rattle.mach_types.specs.declared.events.Kind.TheVariants as kind
use Rattle.mach_types.specs.declared.sequences.Outcome.TheVariants as comes_to
use Rattle.block_model.specs.declared.acts.SeqEnd.TheVariants as ends
use Rattle.block_model.specs.Whole.{EndsWholeAtVerdict}
use Rattle.block_model.proofs.PlainEvents.{applied}
use Rattle.block_model.proofs.Invariants.Events.{run_ready}
use Rattle.block_model.proofs.KernelTables.{ran_runs}
use Rattle.block_model.proofs.NamedSequences.{number_agrees, outside_where_null}
use Rattle.block_model.proofs.Runs.{settled}
use Rattle.block_model.proofs.Touched.{hanging_is_touched}
use Rattle.block_model.proofs.TouchedHanging.{sees_memory}
use Rattle.block_model.proofs.WholeCauses.{cause_of_death, dies_of, outside_files, outside_goes_on}
use Rattle.block_model.proofs.WholeEvents.{among_own, cut_at_handler, below, did, is_free, place, tables_before, hangs}
use Rattle.block_model.proofs.Interruptions.{InsideOf, first_cleared, inside_of, memory_after, running_is_null, running_word}

-- ENDS

abbrev verdict : Bool → Bool → Option Outcome → SeqEnd
verdict killed inside i = cond killed ends.Dead (cut_or (cond inside ends.Unended ends.Dropped) inside (abort_of i))

dropped_outside : (o : Option Outcome) → verdict false false o ≡ ends.Dropped
dropped_outside o = go (abort_of o)
  where
    go : (at : Option ℕ) → cut_or ends.Dropped false at ≡ ends.Dropped
    go None = refl
    go (Some n) = refl

-- ITS THREAD

-- the pc alone changes
abbrev with_pc : ℕ → Saved → Saved
with_pc at f = record f { pc = at }

module _ (s : Setting) (e : Event) (before : History) (q : Sequence) (run : IsRunHistory s (e ∷ before)) (is : e.entry.kind ≡ kind.Run)
    (own : e.entry.tid.0 ≡ q.thread) (hung : hanging s q.thread before ≡ Some q) where
  abbrev here : Here
  here = place s e before run

  abbrev came_to : Outcome
  came_to = interruption_here here q.thread

  did_run : e.done ≡ done_run here q.thread
  did_run = did s e before run kind.Run is ∙ ap (done_run here) own

  ready_idle : (runs here ≡ None) × (is_ready q.thread here.kernel.threads ≡ true)
  ready_idle =
      let p = run_ready here e.entry.tid.0 (is_free s e before run kind.Run is) in
      (p.0, subst (λ n. is_ready n here.kernel.threads ≡ true) own p.1)

  -- no store waits on the hart before or after it
  none_waits : e.done.executed ≡ [] → e.done.drained ≡ 0 → waiting e.entry.hart.0 (e ∷ before) ≡ []
  none_waits executed drained =
      let h = e.entry.hart.0 in
      let was = settled s before run.0 in
      let idle : waiting h before ≡ [] = was.good.idle h ready_idle.0 in
      let d = e.done in
      sym (ap (λ (m : Plain). m.waiting h) (applied s before e was.counted))
      ∙ ap (λ b. cond b (drop d.drained (waiting h before ++ d.executed)) (waiting h before)) (eqb_same h)
      ∙ ap (λ n. drop n (waiting h before ++ d.executed)) drained
      ∙ ap (λ (ws : List Store). waiting h before ++ ws) executed
      ∙ ap (λ (ws : List Store). ws ++ []) idle

  -- afterwards the thread runs there, outside
  abbrev afterwards : Here
  afterwards = here_in_history s (e ∷ before) e.entry.hart.0

  null_afterwards : e.done ≡ done_running here q.thread came_to → lives_on here q.thread came_to ≡ true
      → (area : Area) → area_here afterwards q.thread ≡ Some area → pointer_of (view afterwards) area ≡ 0
  null_afterwards ran lives area has =
      let before_it : area_here here q.thread ≡ Some area = ap (λ (d : Done). area_of q.thread d.kernel.areas) (sym ran) ∙ has in
      let null : pointer_of (memory afterwards) area ≡ 0 =
      subst (λ (d : Done). pointer_of (memory_after here d) area ≡ 0) (sym ran) (running_is_null here q.thread area before_it lives) in
      let none = none_waits (ap (λ (d : Done). d.executed) ran) (ap (λ (d : Done). d.drained) ran) in
      number_agrees (memory afterwards) (view afterwards) (area.at + RSEQ_CS) 8 (record { same = λ a low high. sees_memory afterwards a none }) ∙ null

  outside_running : e.done ≡ done_running here q.thread came_to → lives_on here q.thread came_to ≡ true → is_inside_at s e.entry.hart.0 (e ∷ before) ≡ false
  outside_running ran lives =
      let there = afterwards in
      let k = here.kernel in
      let runs_it : running s e.entry.hart.0 (e ∷ before) ≡ Some q.thread =
      ap (λ (d : Done). running_on e.entry.hart.0 d.kernel.threads) ran
      ∙ ran_runs s.limits.harts e.entry.hart.0 q.thread k.threads k.scheduling (tables_before s e before run) ready_idle.1 ready_idle.0 (below s e before run) in
      ap (λ r. option_map_or (is_inside_here there) r false) runs_it
      ∙ outside_where_null (view there) (area_here there q.thread) (there.file q.thread).pc (null_afterwards ran lives)

  outside_killed : e.done ≡ done_killed here q.thread came_to → is_inside_at s e.entry.hart.0 (e ∷ before) ≡ false
  outside_killed killed =
      ap (λ r. option_map_or (is_inside_here afterwards) r false)
      (ap (λ (d : Done). running_on e.entry.hart.0 d.kernel.threads) killed ∙ ready_idle.0)

  -- the process is killed
  by_death : e.done ≡ done_killed here q.thread came_to → lives_on here q.thread came_to ≡ false → EndsWholeAtVerdict s e before q
  by_death killed dies =
      let dead : end_at_verdict s q e before ≡ ends.Dead =
      ap (λ b. verdict b (is_inside_waiting here q.thread) e.done.interrupted) (ap (λ (d : Done). is_some d.ended) killed) in
      record {
        over = inl (inl dead);
        outside = outside_killed killed;
        cut = λ at cuts. let other : ends.Dead ≡ ends.Cut at = sym dead ∙ cuts in absurd cc;
        aborted = λ at aborts. inr dead;
        dropped = λ drops. let other : ends.Dead ≡ ends.Dropped = sym dead ∙ drops in absurd cc;
        kept = λ drops. let other : ends.Dead ≡ ends.Dropped = sym dead ∙ drops in absurd cc;
        dead = λ so. subst (λ k. IsDeadBy s k e before) (sym is) (ap (λ (d : Done). d.ended) killed);
        cause = λ so. cause_of_death here q.thread dies;
        caused = λ cause. dead;
      }

  -- where there is no cause it lives on
  no_cause : lives_on here q.thread came_to ≡ true → HasCause here q.thread → ⊥
  no_cause lives cause = false≢true (sym (dies_of here q.thread cause) ∙ lives)

  -- the thread goes on at its abort handler
  abbrev Inside : Type 0
  Inside = InsideOf (memory here) (is_writable here) (area_here here q.thread) (here.file q.thread).pc

  goes_on_at : (at : ℕ) → e.done ≡ done_running here q.thread came_to → came_to ≡ comes_to.Aborted at → GoesOnWith s e.entry.kind e before q.thread (with_pc at (file s q.thread q.reached))
  goes_on_at at ran aborts =
      let f = file s q.thread before in
      let files : e.done.files ≡ (q.thread, with_pc at f) ∷ [] =
      ap (λ (d : Done). d.files) ran ∙ ap (files_interrupted here q.thread) aborts in
      subst (λ k. GoesOnWith s k e before q.thread (with_pc at (file s q.thread q.reached))) (sym is)
      (ap (λ (fs : List (ℕ × Saved)). file_among fs q.thread f) files
      ∙ among_own q.thread f (with_pc at f)
      ∙ ap (with_pc at) (hangs s before q.thread q run.0 hung).file)

  cut_properly : (at : ℕ) (its : Inside) → e.done ≡ done_running here q.thread came_to → lives_on here q.thread came_to ≡ true
      → came_to ≡ comes_to.Aborted at → its.sequence.abort ≡ at → IsCutProperly s e before q at
  cut_properly at its ran lives aborts same =
      cut_at_handler s e before q at its same
      (subst (λ (d : Done). Any (λ w. w ≡ Stored (record { at = its.area.at + RSEQ_CS; size = 8; value = 0 })) d.entered) (sym ran)
      (first_cleared (area_here here q.thread) its.area came_to at _ its.registered aborts))
      (subst (λ k. IsLeftNull s k e before q.thread its.area) (sym is)
      (subst (λ (d : Done). word_at (memory_after here d) (its.area.at + RSEQ_CS) 8 ≡ Some 0) (sym ran)
      (running_word here q.thread its.area its.registered lives)))
      (goes_on_at at ran aborts)

  by_cut : (its : Inside) → e.done ≡ done_running here q.thread came_to → lives_on here q.thread came_to ≡ true → is_inside_waiting here q.thread ≡ true
      → came_to ≡ comes_to.Aborted its.sequence.abort → EndsWholeAtVerdict s e before q
  by_cut its ran lives inside aborts =
      let abort = its.sequence.abort in
      let alive : has_killed e ≡ false = ap (λ (d : Done). is_some d.ended) ran in
      let so : end_at_verdict s q e before ≡ ends.Cut abort =
      ap (λ b. verdict b (is_inside_waiting here q.thread) e.done.interrupted) alive
      ∙ ap (λ c. verdict false c e.done.interrupted) inside
      ∙ ap (verdict false true) (ap (λ (d : Done). d.interrupted) ran ∙ ap Some aborts) in
      record {
        over = inl (inr (abort, so));
        outside = outside_running ran lives;
        cut = λ at cuts.
            let equal : ends.Cut abort ≡ ends.Cut at = sym so ∙ cuts in
            let same : abort ≡ at = cc in
            cut_properly at its ran lives (aborts ∙ ap comes_to.Aborted same) same;
        aborted = λ at sent.
            let equal : Some came_to ≡ Some (comes_to.Aborted at) = sym (ap (λ (d : Done). d.interrupted) ran) ∙ sent in
            let same : abort ≡ at = cc in
            inl (so ∙ ap ends.Cut same);
        dropped = λ drops. let other : ends.Cut abort ≡ ends.Dropped = sym so ∙ drops in absurd cc;
        kept = λ drops. let other : ends.Cut abort ≡ ends.Dropped = sym so ∙ drops in absurd cc;
        dead = λ dies. let other : ends.Cut abort ≡ ends.Dead = sym so ∙ dies in absurd cc;
        cause = λ dies. let other : ends.Cut abort ≡ ends.Dead = sym so ∙ dies in absurd cc;
        caused = λ cause. absurd (no_cause lives cause);
      }

  by_outcome : (its : Inside) → e.done ≡ done_running here q.thread came_to → lives_on here q.thread came_to ≡ true → is_inside_waiting here q.thread ≡ true
      → EndsWholeAtVerdict s e before q
  by_outcome its ran lives inside =
      elim its.outcome [
        | inl aborts ↦ by_cut its ran lives inside aborts
        | inr killed ↦ absurd (false≢true (sym (ap (lives_on here q.thread) killed) ∙ lives))
      ]

  -- or it was dropped
  never_sent : (at : ℕ) → e.done ≡ done_running here q.thread came_to → is_inside_waiting here q.thread ≡ false
      → e.done.interrupted ≡ Some (comes_to.Aborted at) → ⊥
  never_sent at ran outside sent =
      let equal : Some came_to ≡ Some (comes_to.Aborted at) = sym (ap (λ (d : Done). d.interrupted) ran) ∙ sent in
      let aborts : came_to ≡ comes_to.Aborted at = cc in
      outside_goes_on here (here.file q.thread).pc (area_here here q.thread) at outside aborts

  kept_file : e.done ≡ done_running here q.thread came_to → is_inside_waiting here q.thread ≡ false
      → file s q.thread (e ∷ before) ≡ file s q.thread q.reached
  kept_file ran outside =
      ap (λ (fs : List (ℕ × Saved)). file_among fs q.thread (file s q.thread before))
      (ap (λ (d : Done). d.files) ran ∙ outside_files here q.thread outside)
      ∙ (hangs s before q.thread q run.0 hung).file

  by_drop : e.done ≡ done_running here q.thread came_to → lives_on here q.thread came_to ≡ true → is_inside_waiting here q.thread ≡ false
      → EndsWholeAtVerdict s e before q
  by_drop ran lives outside =
      let alive : has_killed e ≡ false = ap (λ (d : Done). is_some d.ended) ran in
      let so : end_at_verdict s q e before ≡ ends.Dropped =
      ap (λ b. verdict b (is_inside_waiting here q.thread) e.done.interrupted) alive
      ∙ ap (λ c. verdict false c e.done.interrupted) outside
      ∙ dropped_outside e.done.interrupted in
      record {
        over = inr so;
        outside = outside_running ran lives;
        cut = λ at cuts. let other : ends.Dropped ≡ ends.Cut at = sym so ∙ cuts in absurd cc;
        aborted = λ at sent. absurd (never_sent at ran outside sent);
        dropped = λ drops. hanging_is_touched s before q.thread e.entry.hart.0 q run.0 hung ready_idle.0 outside;
        kept = λ drops. kept_file ran outside;
        dead = λ dies. let other : ends.Dropped ≡ ends.Dead = sym so ∙ dies in absurd cc;
        cause = λ dies. let other : ends.Dropped ≡ ends.Dead = sym so ∙ dies in absurd cc;
        caused = λ cause. absurd (no_cause lives cause);
      }

  by_life : (b : Bool) → lives_on here q.thread came_to ≡ b → e.done ≡ cond b (done_running here q.thread came_to) (done_killed here q.thread came_to)
      → EndsWholeAtVerdict s e before q
  by_life false dies done = by_death done dies
  by_life true lives done = by_inside (is_inside_waiting here q.thread) refl
    where
      by_inside : (c : Bool) → is_inside_waiting here q.thread ≡ c → EndsWholeAtVerdict s e before q
      by_inside true inside =
          by_outcome (inside_of (memory here) (is_writable here) (area_here here q.thread) (here.file q.thread).pc inside) done lives inside
      by_inside false outside = by_drop done lives outside

  pub verdict_of_thread : EndsWholeAtVerdict s e before q
  verdict_of_thread = by_life (lives_on here q.thread came_to) refl did_run

pub ends_whole_at_verdict : (s : Setting) (e : Event) (before : History) (q : Sequence) → IsRunHistory s (e ∷ before) → e.entry.kind ≡ kind.Run
    → hanging s e.entry.tid.0 before ≡ Some q → EndsWholeAtVerdict s e before q
ends_whole_at_verdict s e before q run is hung =
    let own : e.entry.tid.0 ≡ q.thread = sym (hangs s before e.entry.tid.0 q run.0 hung).thread in
    verdict_of_thread s e before q run is own (subst (λ n. hanging s n before ≡ Some q) own hung)
