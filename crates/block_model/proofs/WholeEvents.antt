-- What an event of a run tells, by its kind; and where the thread of a sequence that hangs is: it is ready, and its registers and its pc are
-- those that the sequence left.
use Rattle.block_model.proofs.Common.{◌≡◌, ◌<◌, ◌≤◌, ◌+◌, ◌-◌, ℕ, [], ◌∷◌, sym, ap, ◌∙◌, cond, None, ◌≢◌, subst, true, Some, Any, Entry, Event, GoesOnWith, Here, History, IsCutProperly, IsLeftNull, IsRunHistory, IsTables, Kind, RSEQ_CS, Saved, Sequence, Setting, Stored, area_here, choice_of, choice_with, done, done_of, eqb-false, eqb_same, file, file_among, hanging, here_in_history, is_ready, is_writable, kernel, memory, named, number_of, option_map_or, over_at, refusal_of, sequence_on, thread_in, word_at}
use Rattle.mach_types.specs.declared.sequences.Named.TheVariants as names
use Rattle.block_model.proofs.Interruptions.{InsideOf}
use Rattle.block_model.proofs.NamedSequences.{good_signed}
use Rattle.block_model.proofs.Runs.{allowed_at, settled, fit_at}
use Rattle.block_model.proofs.Sequences.{runs_throughout, Elsewhere, Own, SequenceStep, is_reached, by_sequence}
use Rattle.block_model.proofs.TouchedHanging.{hangs_since}

module _ (s : Setting) (e : Event) (before : History) (run : IsRunHistory s (e ∷ before)) where
  abbrev pub place : Here
  place = here_in_history s before e.entry.hart.0

  pub not_over : over_at s before ≡ None
  not_over = (allowed_at s before e.entry.hart.0 (choice_of e.entry) e.entry run.1).goes

  pub below : e.entry.hart.0 < s.limits.harts
  below = (allowed_at s before e.entry.hart.0 (choice_of e.entry) e.entry run.1).lt

  pub tables_before : IsTables s.limits.harts place.kernel.threads place.kernel.scheduling
  tables_before = (settled s before run.0).good.kernel.tables

  pub did : (k : Kind) → e.entry.kind ≡ k → e.done ≡ done_of (choice_with k e.entry) place
  unfolding done
  did k is = ap (λ (x : Event). x.done) run.2 ∙ ap (λ n. done_of (choice_with n e.entry) place) is

  pub is_free : (k : Kind) → e.entry.kind ≡ k → refusal_of (choice_with k e.entry) place ≡ None
  is_free k is =
      ap (λ n. refusal_of (choice_with n e.entry) place) (sym is)
      ∙ (allowed_at s before e.entry.hart.0 (choice_of e.entry) e.entry run.1).free

  pub its_thread : (k : Kind) → e.entry.kind ≡ k → e.entry.tid.0 ≡ number_of (thread_in (choice_with k e.entry) place)
  its_thread k is =
      ap (λ (x : Entry). x.tid.0) (allowed_at s before e.entry.hart.0 (choice_of e.entry) e.entry run.1).is
      ∙ ap (λ n. number_of (thread_in (choice_with n e.entry) place)) is

-- the one file that is set
pub among_own : (t : ℕ) (f g : Saved) → file_among ((t, g) ∷ []) t f ≡ g
among_own t f g = ap (λ b. cond b g f) (eqb_same t)

-- UNTIL THE NEXT EVENT OF THE HART

-- the file of the thread of a sequence stays as its last event left it, or that of an event of another hart
module _ (s : Setting) (e : Event) (before : History) (h : ℕ) (q : Sequence) where
  file_by : SequenceStep s e before h q → IsRunHistory s (e ∷ before)
      → (sequence_on s h before ≡ Some q → file s q.thread before ≡ file s q.thread q.reached)
      → file s q.thread (e ∷ before) ≡ file s q.thread q.reached
  file_by (Own own inside its) run rest = ap (file s q.thread) (sym (is_reached s e before h its))
  file_by (Elsewhere other is) run rest =
      let there = runs_throughout s before h q run.0 is in
      let apart : h ≢ e.entry.hart.0 = λ same. eqb-false e.entry.hart.0 h other (sym same) in
      (fit_at s e before run).apart h q.thread (file s q.thread before) apart there.now ∙ rest is

pub reached_file : (s : Setting) (before : History) (h : ℕ) (q : Sequence) → IsRunHistory s before → sequence_on s h before ≡ Some q
    → file s q.thread before ≡ file s q.thread q.reached
reached_file s before h =
    by_sequence s h (λ b r. file s r.thread b ≡ file s r.thread r.reached) (λ e b r run rest is step. file_by s e b h r step run (rest r)) before

-- WHILE IT HANGS

pub record Hangs (s : Setting) (before : History) (t : ℕ) (q : Sequence) : Type 0 where
  pub thread : q.thread ≡ t
  pub ready : is_ready t (kernel s before).threads ≡ true
  pub file : file s t before ≡ file s t q.reached

pub hangs : (s : Setting) (before : History) (t : ℕ) (q : Sequence) → IsRunHistory s before → hanging s t before ≡ Some q → Hangs s before t q
hangs s before t q run is =
    let its = hangs_since s before t q run is in
    record {
      thread = its.thread;
      ready = its.ready;
      file = its.same_file ∙ subst (λ u. file s u its.place ≡ file s u q.reached) its.thread (reached_file s its.place q.hart q its.run its.newest);
    }

-- WHERE IT IS CUT

-- a thread that goes on at the abort handler of the good sequence that it was inside was cut properly
pub cut_at_handler : (s : Setting) (e : Event) (before : History) (q : Sequence) (at : ℕ)
    (its : InsideOf (memory (here_in_history s before e.entry.hart.0)) (is_writable (here_in_history s before e.entry.hart.0))
    (area_here (here_in_history s before e.entry.hart.0) q.thread) (file s q.thread before).pc)
    → its.sequence.abort ≡ at → Any (λ w. w ≡ Stored (record { at = its.area.at + RSEQ_CS; size = 8; value = 0 })) e.done.entered
    → IsLeftNull s e.entry.kind e before q.thread its.area → GoesOnWith s e.entry.kind e before q.thread (record (file s q.thread q.reached) { pc = at })
    → IsCutProperly s e before q at
cut_at_handler s e before q at its same cleared null goes_on =
    let m = memory (here_in_history s before e.entry.hart.0) in
    let pc = (file s q.thread before).pc in
    let signed = good_signed m its.area pc its.sequence its.good in
    record {
      area = its.area;
      named = its.sequence;
      registered = its.registered;
      good = ap (λ o. option_map_or (λ area. named m area pc) o names.Nothing) its.registered ∙ its.good;
      inside = its.inside;
      handler = same;
      above = subst (λ n. 4 ≤ n) same signed.0;
      signed = subst (λ n. word_at m (n - 4) 4 ≡ Some its.area.sig) same signed.1;
      cleared = cleared;
      null = null;
      goes_on = goes_on;
    }
