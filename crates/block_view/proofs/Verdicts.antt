-- How a sequence that hangs ends by the event by which its thread begins to run: what is seen of the event tells.
use Rattle.std.proofs.Common.{◌≡◌, ◌≢◌, ℕ, ◌⊎◌, inl, inr, [], ◌∷◌, refl, sym, ap, ◌∙◌, subst, eqb, Bool, true, false, cond, not, ◌&&◌, Option, Some, None, is_some}
use Rattle.std.specs.Option.{option_map_or}
use Rattle.std.proofs.lemmas.Bool.{false≢true, ne_eqb}
use Rattle.mach_types.proofs.Laws.{eqb_same}
use Rattle.mach_types.specs.Events.{choice_with}
use Rattle.mach_types.specs.Kernel.Areas.{descriptor_at, has_flags, is_inside, is_out_of_range, is_signed, named, pointer_of, sequence_of}
use Rattle.mach_types.specs.Kernel.Threads.{running_on}
use Rattle.mach_types.specs.declared.events.Entry.{Entry}
use Rattle.mach_types.specs.declared.events.Kind.TheVariants as kind
use Rattle.mach_types.specs.declared.sequences.Area.{Area}
use Rattle.mach_types.specs.declared.sequences.BadWhy.{BadWhy}
use Rattle.mach_types.specs.declared.sequences.BadWhy.TheVariants as bad
use Rattle.mach_types.specs.declared.sequences.Descriptor.{Descriptor}
use Rattle.mach_types.specs.declared.sequences.Named.{Named}
use Rattle.mach_types.specs.declared.sequences.Named.TheVariants as names
use Rattle.mach_types.specs.declared.sequences.Outcome.{Outcome}
use Rattle.mach_types.specs.declared.sequences.Outcome.TheVariants as comes_to
use Rattle.mach_types.specs.declared.sequences.Seq.{Seq}
use Rattle.mach_types.specs.declared.threads.Saved.{Saved}
use Rattle.block_model.specs.declared.acts.SeqEnd.{SeqEnd}
use Rattle.block_model.specs.declared.acts.SeqEnd.TheVariants as ends
use Rattle.block_model.specs.Acts.{Sequence as Known, abort_of, cut_or, end_at_verdict, hanging}
use Rattle.block_model.specs.Deciding.{entry_in}
use Rattle.block_model.specs.Events.{done_of, refusal_of}
use Rattle.block_model.specs.Events.Run.{done_killed, done_run_by, done_running, lives_on, refusal_run}
use Rattle.block_model.specs.Here.{Done, Here, memory}
use Rattle.block_model.specs.History.{Event, History, file, file_among, here_in_history, running}
use Rattle.block_model.specs.Run.{IsRunHistory}
use Rattle.block_model.specs.Sequences.{files_interrupted, interruption_here, is_inside_waiting}
use Rattle.block_model.specs.Setting.{Setting}
use Rattle.block_model.specs.Whole.{EndsWholeAtVerdict, IsCutOrDead, IsCutProperly}
use Rattle.block_model.proofs.Laws.{ran_runs, run_ready}
use Rattle.block_view.specs.Ledgers.{verdict_by}
use Rattle.block_view.specs.Passing.{is_killed, passed_of, pc_at}
use Rattle.block_view.proofs.Logs.{whole_place}
use Rattle.block_view.proofs.Made.{made_at, whole_at}

-- AN ABORT HANDLER LIES OUTSIDE ITS SEQUENCE

-- a test that must fail
passed_by : (b : Bool) (wrong other : Named) (sequence : Seq) → (wrong ≡ names.Good sequence → ⊥) → cond b wrong other ≡ names.Good sequence
    → (b ≡ false) × (other ≡ names.Good sequence)
passed_by true wrong other sequence never is = absurd (never is)
passed_by false wrong other sequence never is = (refl, is)

bad_not_good : (why : BadWhy) (sequence : Seq) → names.Bad why ≡ names.Good sequence → ⊥
bad_not_good why sequence is = cc

nothing_not_good : (sequence : Seq) → names.Nothing ≡ names.Good sequence → ⊥
nothing_not_good sequence is = cc

good_is : (b : Bool) (one sequence : Seq) → cond b (names.Bad bad.SeqFlags) (names.Good one) ≡ names.Good sequence → one ≡ sequence
good_is true one sequence is = absurd cc
good_is false one sequence is = cc

outside_by : (byte : ℕ → Option ℕ) (area : Area) (pc : ℕ) (d : Descriptor) (sequence : Seq)
    → cond (not (eqb d.version 0)) (names.Bad bad.Version)
    (cond (is_out_of_range (sequence_of d)) (names.Bad bad.Range)
    (cond (is_inside (sequence_of d) (sequence_of d).abort) (names.Bad bad.AbortInside)
    (cond (not (is_signed byte area (sequence_of d))) (names.Bad bad.Signature)
    (cond (is_inside (sequence_of d) pc && has_flags byte area d) (names.Bad bad.SeqFlags) (names.Good (sequence_of d))))))
    ≡ names.Good sequence → is_inside sequence sequence.abort ≡ false
outside_by byte area pc d sequence is =
    let version = passed_by _ (names.Bad bad.Version) _ sequence (bad_not_good bad.Version sequence) is in
    let range = passed_by _ (names.Bad bad.Range) _ sequence (bad_not_good bad.Range sequence) version.1 in
    let inside = passed_by _ (names.Bad bad.AbortInside) _ sequence (bad_not_good bad.AbortInside sequence) range.1 in
    let signed = passed_by _ (names.Bad bad.Signature) _ sequence (bad_not_good bad.Signature sequence) inside.1 in
    let same = good_is _ (sequence_of d) sequence signed.1 in
    ap (λ (x : Seq). is_inside x x.abort) (sym same) ∙ inside.0

good_outside : (byte : ℕ → Option ℕ) (area : Area) (pc : ℕ) (sequence : Seq) → named byte area pc ≡ names.Good sequence
    → is_inside sequence sequence.abort ≡ false
good_outside byte area pc sequence is =
    let read = passed_by _ (names.Bad bad.AreaBytes) _ sequence (bad_not_good bad.AreaBytes sequence) is in
    let some = passed_by _ names.Nothing _ sequence (nothing_not_good sequence) read.1 in
    let low = passed_by _ (names.Bad bad.Pointer) _ sequence (bad_not_good bad.Pointer sequence) some.1 in
    let found = passed_by _ (names.Bad bad.Descriptor) _ sequence (bad_not_good bad.Descriptor sequence) low.1 in
    outside_by byte area pc (descriptor_at byte (pointer_of byte area)) sequence found.1

-- so a sequence that was cut properly goes on at another address
elsewhere : (s : Setting) (e : Event) (before : History) (q : Known) (at : ℕ) → IsCutProperly s e before q at → at ≢ (file s q.thread before).pc
elsewhere s e before q at cut same =
    let here = here_in_history s before e.entry.hart.0 in
    let good : named (memory here) cut.area (file s q.thread before).pc ≡ names.Good cut.named =
    ap (λ o. option_map_or (λ area. named (memory here) area (file s q.thread before).pc) o names.Nothing) (sym cut.registered) ∙ cut.good in
    let outside = good_outside (memory here) cut.area (file s q.thread before).pc cut.named good in
    false≢true (sym outside ∙ ap (is_inside cut.named) (cut.handler ∙ same) ∙ cut.inside)

-- THE VERDICT

own_file : (t : ℕ) (f other : Saved) → file_among ((t, f) ∷ []) t other ≡ f
own_file t f other = ap (λ b. cond b f other) (eqb_same t)

never_dead : (b inside : Bool) (a : Option ℕ) → cut_or (cond b ends.Unended ends.Dropped) inside a ≡ ends.Dead → ⊥
never_dead true inside None is = cc
never_dead false inside None is = cc
never_dead true true (Some at) is = cc
never_dead true false (Some at) is = cc
never_dead false true (Some at) is = cc
never_dead false false (Some at) is = cc

only_dropped : (b : Bool) → IsCutOrDead (cond b ends.Unended ends.Dropped) ⊎ (cond b ends.Unended ends.Dropped ≡ ends.Dropped)
    → ends.Dropped ≡ cond b ends.Unended ends.Dropped
only_dropped false _ = refl
only_dropped true (inl (inl dead)) = absurd cc
only_dropped true (inl (inr cut)) = absurd (not_cut cut.0 cut.1)
  where
    not_cut : (at : ℕ) → ends.Unended ≡ ends.Cut at → ⊥
    not_cut at is = cc
only_dropped true (inr dropped) = absurd cc

module _ (s : Setting) (e : Event) (before : History) (q : Known) (run : IsRunHistory s (e ∷ before)) (begins : e.entry.kind ≡ kind.Run)
    (hangs : hanging s e.entry.tid.0 before ≡ Some q) where
  abbrev h : ℕ
  h = e.entry.hart.0

  abbrev t : ℕ
  t = e.entry.tid.0

  abbrev here : Here
  here = here_in_history s before h

  abbrev inside : Bool
  inside = is_inside_waiting here q.thread

  abbrev told : SeqEnd
  told = cut_or (cond inside ends.Unended ends.Dropped) inside (abort_of e.done.interrupted)

  verdict : EndsWholeAtVerdict s e before q
  verdict = (whole_at s e before run).verdict q begins hangs

  thread : q.thread ≡ t
  thread = ((whole_place s before run.0).hangs t q hangs).thread

  free : refusal_run here t ≡ None
  free = ap (λ k. refusal_of (choice_with k e.entry) here) (sym begins) ∙ (made_at s e before run).free

  did : e.done ≡ done_run_by here t (interruption_here here t)
  did = (made_at s e before run).did ∙ ap (λ k. done_of (choice_with k e.entry) here) begins

  waited_pc : e.entry.pc ≡ (file s t before).pc
  waited_pc = ap (λ (x : Entry). x.pc) (made_at s e before run).is ∙ ap (λ k. (entry_in (choice_with k e.entry) here).pc) begins

  -- the process ended
  killed_as : e.done ≡ done_killed here t (interruption_here here t) → verdict_by (passed_of s e before) ≡ end_at_verdict s q e before
  unfolding passed_of
  killed_as is =
      let ended = ap (λ (d : Done). d.ended) is in
      ap (λ o. cond (is_killed o) ends.Dead (cond (eqb (pc_at s h (e ∷ before)) e.entry.pc) ends.Dropped (ends.Cut (pc_at s h (e ∷ before))))) ended
      ∙ sym (ap (λ o. cond (is_some o) ends.Dead told) ended)

  -- or the thread runs
  module _ (o : Outcome) (outcome : interruption_here here t ≡ o) (runs_on : e.done ≡ done_running here t o) where
    alive : e.done.ended ≡ None
    alive = ap (λ (d : Done). d.ended) runs_on

    ends_told : end_at_verdict s q e before ≡ told
    ends_told = ap (λ x. cond (is_some x) ends.Dead told) alive

    on_hart : running s h (e ∷ before) ≡ Some t
    on_hart =
        let ready = run_ready here t free in
        let allowed = made_at s e before run in
        ap (λ (d : Done). running_on h d.kernel.threads) runs_on
        ∙ ran_runs s.limits.harts h t here.kernel.threads here.kernel.scheduling allowed.good.kernel.tables ready.1 ready.0 allowed.lt

    pc_now : pc_at s h (e ∷ before) ≡ (file_among (files_interrupted here t o) t (file s t before)).pc
    pc_now =
        ap (λ r. option_map_or (λ u. (file s u (e ∷ before)).pc) r 0) on_hart
        ∙ ap (λ (d : Done). (file_among d.files t (file s t before)).pc) runs_on

    seen_as : (pc : ℕ) → pc_at s h (e ∷ before) ≡ pc → verdict_by (passed_of s e before) ≡ cond (eqb pc (file s t before).pc) ends.Dropped (ends.Cut pc)
    unfolding passed_of
    seen_as pc is =
        ap (λ x. cond (is_killed x) ends.Dead (cond (eqb (pc_at s h (e ∷ before)) e.entry.pc) ends.Dropped (ends.Cut (pc_at s h (e ∷ before))))) alive
        ∙ ap (λ n. cond (eqb n e.entry.pc) ends.Dropped (ends.Cut n)) is
        ∙ ap (λ n. cond (eqb pc n) ends.Dropped (ends.Cut pc)) waited_pc

    tells : abort_of e.done.interrupted ≡ abort_of (Some o)
    tells = ap (λ (d : Done). abort_of d.interrupted) runs_on

    -- with the pc that it waited with
    stays_as : abort_of (Some o) ≡ None → pc_at s h (e ∷ before) ≡ (file s t before).pc → verdict_by (passed_of s e before) ≡ end_at_verdict s q e before
    stays_as none stays =
        let end : end_at_verdict s q e before ≡ cond inside ends.Unended ends.Dropped =
        ends_told ∙ ap (cut_or (cond inside ends.Unended ends.Dropped) inside) (tells ∙ none) in
        seen_as (file s t before).pc stays
        ∙ ap (λ b. cond b ends.Dropped (ends.Cut (file s t before).pc)) (eqb_same (file s t before).pc)
        ∙ only_dropped inside (subst (λ x. IsCutOrDead x ⊎ (x ≡ ends.Dropped)) end verdict.over)
        ∙ sym end

    -- or at its abort handler
    aborted_as : (at : ℕ) → o ≡ comes_to.Aborted at → verdict_by (passed_of s e before) ≡ end_at_verdict s q e before
    aborted_as at is =
        let now : pc_at s h (e ∷ before) ≡ at =
        pc_now
        ∙ ap (λ x. (file_among (files_interrupted here t x) t (file s t before)).pc) is
        ∙ ap (λ (f : Saved). f.pc) (own_file t (record (here.file t) { pc = at }) (file s t before)) in
        let sent : e.done.interrupted ≡ Some (comes_to.Aborted at) = ap (λ (d : Done). d.interrupted) runs_on ∙ ap Some is in
        let end : end_at_verdict s q e before ≡ ends.Cut at = cut_so at sent in
        let apart : at ≢ (file s t before).pc =
        λ same. elsewhere s e before q at (verdict.cut at end) (same ∙ ap (λ u. (file s u before).pc) (sym thread)) in
        seen_as at now
        ∙ ap (λ b. cond b ends.Dropped (ends.Cut at)) (ne_eqb at (file s t before).pc apart)
        ∙ sym end
      where
        cut_so : (at : ℕ) → e.done.interrupted ≡ Some (comes_to.Aborted at) → end_at_verdict s q e before ≡ ends.Cut at
        cut_so at sent = elim (verdict.aborted at sent) [
          | inl cut ↦ cut
          | inr dead ↦ absurd (never_dead inside inside (abort_of e.done.interrupted) (sym ends_told ∙ dead))
        ]

  by_outcome : (o : Outcome) → interruption_here here t ≡ o → e.done ≡ done_running here t o → lives_on here t o ≡ true
      → verdict_by (passed_of s e before) ≡ end_at_verdict s q e before
  by_outcome comes_to.Nothing outcome is lives = stays_as comes_to.Nothing outcome is refl (pc_now comes_to.Nothing outcome is)
  by_outcome comes_to.Cleared outcome is lives = stays_as comes_to.Cleared outcome is refl (pc_now comes_to.Cleared outcome is)
  by_outcome (comes_to.Aborted at) outcome is lives = aborted_as (comes_to.Aborted at) outcome is at refl
  by_outcome (comes_to.Killed why) outcome is lives = absurd (false≢true lives)

  by_life : (b : Bool) → lives_on here t (interruption_here here t) ≡ b → verdict_by (passed_of s e before) ≡ end_at_verdict s q e before
  by_life true lives =
      by_outcome (interruption_here here t) refl
      (did ∙ ap (λ b. cond b (done_running here t (interruption_here here t)) (done_killed here t (interruption_here here t))) lives) lives
  by_life false dies =
      killed_as (did ∙ ap (λ b. cond b (done_running here t (interruption_here here t)) (done_killed here t (interruption_here here t))) dies)

  pub verdict_as : verdict_by (passed_of s e before) ≡ end_at_verdict s q e before
  verdict_as = by_life (lives_on here t (interruption_here here t)) refl
