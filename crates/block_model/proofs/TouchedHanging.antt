-- A sequence that hangs: what its thread keeps from the place on at which it was preempted, and that bytes stay which nothing touched.
use Rattle.block_model.proofs.Common.{◌≡◌, ◌≢◌, ℕ, ◌+◌, ◌<◌, List, [], ◌∷◌, length, refl, sym, ap, ◌∙◌, arith, true, false, Option, Some, None, Bytes, Done, Entry, Event, Here, History, IsRunHistory, Kernel, Ready, Sequence, Setting, Store, area_of, before_last, choice_of, done, done_preempt_by, file, file_among, hanging, here_in_history, is_inside_at, is_ready, kernel, left, list_any, memory, number_of, on, option_map, or_parts, overlay, running, sequence_on, touched_in, touches, view, waiting_here, is_preempt}
use Rattle.mach_types.specs.declared.events.Kind.TheVariants as kind
use Rattle.block_model.proofs.EventNeeds.{leaving_does, leaving_runs, leaving_waits}
use Rattle.block_model.proofs.Runs.{allowed_at, settled}
use Rattle.block_model.proofs.Invariants.Events.{ready_apart}
use Rattle.block_model.proofs.KernelTables.{its_ready, running_is, state_now}
use Rattle.block_model.proofs.ReadyFiles.{area_stays, ready_file_stays, ready_stays}
use Rattle.block_model.proofs.Sequences.{runs_throughout, HangingStep, HangsOn, Preempted, hanging_step}
use Rattle.block_model.proofs.TouchedBytes.{memory_stays}
use Rattle.block_model.proofs.TouchedPlaces.{AgreeAll, AreSmall, agree_twice, peeled, since_count, since_last}

-- A PREEMPTION

module _ (s : Setting) (e : Event) (before : History) (t : ℕ) (run : IsRunHistory s (e ∷ before)) (leaves : is_preempt e.entry.kind ≡ true)
    (at : running s e.entry.hart.0 before ≡ Some t) where
  abbrev place : Here
  place = here_in_history s before e.entry.hart.0

  preempt_done : e.done ≡ done_preempt_by place (Some t)
  unfolding done
  preempt_done =
      ap (λ (x : Event). x.done) run.2 ∙ leaving_does e.entry.kind e.entry place t leaves at

  preempt_record : kernel s (e ∷ before) ≡ left t (kernel s before)
  preempt_record = ap (λ (d : Done). d.kernel) preempt_done

  preempt_file : file s t (e ∷ before) ≡ file s t before
  preempt_file = ap (λ (d : Done). file_among d.files t (file s t before)) preempt_done

  preempt_waits : waiting_here place ≡ []
  preempt_waits =
      leaving_waits e.entry.kind e.entry place leaves (allowed_at s before e.entry.hart.0 (choice_of e.entry) e.entry run.1).free

  preempt_tid : e.entry.tid.0 ≡ t
  preempt_tid =
      let a = allowed_at s before e.entry.hart.0 (choice_of e.entry) e.entry run.1 in
      ap (λ (x : Entry). x.tid.0) a.is ∙ ap number_of (sym (leaving_runs e.entry.kind e.entry place leaves a.free) ∙ at)

  preempt_ready : is_ready t (kernel s (e ∷ before)).threads ≡ true
  preempt_ready =
      let k = kernel s before in
      let tables = (settled s before run.0).good.kernel.tables in
      let was = running_is s.limits.harts e.entry.hart.0 t k.threads k.scheduling tables at in
      ap (λ (k : Kernel). is_ready t k.threads) preempt_record ∙ ap its_ready (state_now t Ready (on e.entry.hart.0) k.threads was)

-- SINCE IT WAS PREEMPTED

-- where no store waits a hart sees memory
mapped_still : (o : Option ℕ) → option_map (λ (b : ℕ). b) o ≡ o
mapped_still None = refl
mapped_still (Some b) = refl

pub sees_memory : (here : Here) (a : ℕ) → waiting_here here ≡ [] → view here a ≡ memory here a
sees_memory here a none = ap (λ (ws : List Store). option_map (overlay ws a) (memory here a)) none ∙ mapped_still (memory here a)

see_memory : (here : Here) (ws : List Bytes) → waiting_here here ≡ [] → AgreeAll (view here) (memory here) ws
see_memory here [] none = tt
see_memory here (w ∷ ws) none = (record { same = λ a low high. sym (sees_memory here a none) }, see_memory here ws none)

memories_stay : (s : Setting) (e : Event) (before : History) (h : ℕ) (ws : List Bytes) → AreSmall ws → list_any (touches s e before) ws ≡ false
    → AgreeAll (memory (here_in_history s before h)) (memory (here_in_history s (e ∷ before) h)) ws
memories_stay s e before h [] small none = tt
memories_stay s e before h (w ∷ ws) small none =
    let parts = or_parts (touches s e before w) (list_any (touches s e before) ws) none in
    (memory_stays s e before w small.0 parts.0 h, memories_stay s e before h ws small.1 parts.1)

-- the place before the preemption, where the sequence was the newest of its hart and its thread was inside; from there on the
-- thread is ready, with its file and its area, and what nothing touched is in memory as its hart saw it
pub record IsHanging (s : Setting) (before : History) (t : ℕ) (q : Sequence) : Type 0 where
  pub place : History
  pub run : IsRunHistory s place
  pub thread : q.thread ≡ t
  pub newest : sequence_on s q.hart place ≡ Some q
  pub inside : is_inside_at s q.hart place ≡ true
  pub longer : length (before_last q) < length before
  pub ready : is_ready t (kernel s before).threads ≡ true
  pub same_file : file s t before ≡ file s t place
  pub same_area : area_of t (kernel s before).areas ≡ area_of t (kernel s place).areas
  pub agree : (ws : List Bytes) → AreSmall ws → touched_in s (since_count q before) before ws ≡ false
      → (touched_in s (since_count q place) place ws ≡ false)
      × AgreeAll (view (here_in_history s place q.hart)) (memory (here_in_history s before q.hart)) ws

module _ (s : Setting) (e : Event) (before : History) (t : ℕ) (q : Sequence) (run : IsRunHistory s (e ∷ before)) where
  more_count : length (before_last q) < length before → since_count q (e ∷ before) ≡ since_count q before + 1
  more_count longer = omega arith

  -- on the hart of the sequence
  hanging_from : q.hart ≡ e.entry.hart.0 → is_preempt e.entry.kind ≡ true → running s e.entry.hart.0 before ≡ Some q.thread
      → e.entry.tid.0 ≡ t → is_inside_at s e.entry.hart.0 before ≡ true → sequence_on s e.entry.hart.0 before ≡ Some q → IsHanging s (e ∷ before) t q
  hanging_from hart kind_is at own inside was =
      let thread : q.thread ≡ t = sym (preempt_tid s e before q.thread run kind_is at) ∙ own in
      let runs = at ∙ ap Some thread in
      let newest = ap (λ k. sequence_on s k before) hart ∙ was in
      let longer = (since_last s before q.hart q run.0 newest).longer in
      let waits = ap (λ k. waiting_here (here_in_history s before k)) hart ∙ preempt_waits s e before t run kind_is runs in
      record {
        place = before;
        run = run.0;
        thread = thread;
        newest = newest;
        inside = ap (λ k. is_inside_at s k before) hart ∙ inside;
        longer = omega (arith, longer);
        ready = preempt_ready s e before t run kind_is runs;
        same_file = preempt_file s e before t run kind_is runs;
        same_area = ap (λ (k : Kernel). area_of t k.areas) (preempt_record s e before t run kind_is runs);
        agree = λ ws small none.
            let parts = peeled s e before ws (since_count q (e ∷ before)) (since_count q before) (more_count longer) none in (
              parts.1,
              agree_twice (view (here_in_history s before q.hart)) (memory (here_in_history s before q.hart)) (memory (here_in_history s (e ∷ before) q.hart)) ws
                  (see_memory (here_in_history s before q.hart) ws waits) (memories_stay s e before q.hart ws small parts.0),
            );
      }

  hanging_goes_on : (e.entry.kind ≡ kind.Run → e.entry.tid.0 ≢ t) → IsHanging s before t q → IsHanging s (e ∷ before) t q
  hanging_goes_on other was =
      let longer = was.longer in
      let k = kernel s before in
      let tables = (settled s before run.0).good.kernel.tables in
      let elsewhere : running s e.entry.hart.0 before ≢ Some t =
      λ there. ready_apart s.limits.harts t e.entry.hart.0 t k.threads k.scheduling tables was.ready there refl in
      record {
        place = was.place;
        run = was.run;
        thread = was.thread;
        newest = was.newest;
        inside = was.inside;
        longer = omega (arith, longer);
        ready = ready_stays s e before t run was.ready other;
        same_file = ready_file_stays s e before t run was.ready other ∙ was.same_file;
        same_area = area_stays s e before t run elsewhere ∙ was.same_area;
        agree = λ ws small none.
            let parts = peeled s e before ws (since_count q (e ∷ before)) (since_count q before) (more_count longer) none in
            let rest = was.agree ws small parts.1 in (
              rest.0,
              agree_twice (view (here_in_history s was.place q.hart)) (memory (here_in_history s before q.hart)) (memory (here_in_history s (e ∷ before) q.hart)) ws
                  rest.1 (memories_stay s e before q.hart ws small parts.0),
            );
      }

  hanging_by : HangingStep s e before t q → (hanging s t before ≡ Some q → IsHanging s before t q) → IsHanging s (e ∷ before) t q
  hanging_by (HangsOn was other) rest = hanging_goes_on other (rest was)
  hanging_by (Preempted kind_is own inside was) rest =
      let at = runs_throughout s before e.entry.hart.0 q run.0 was in
      hanging_from at.hart kind_is at.now own inside was

pub hangs_since : (s : Setting) (before : History) (t : ℕ) (q : Sequence) → IsRunHistory s before → hanging s t before ≡ Some q → IsHanging s before t q
hangs_since s [] t q run is = absurd cc
hangs_since s (e ∷ before) t q run is = hanging_by s e before t q run (hanging_step s e before t q is) (λ was. hangs_since s before t q run.0 was)
