-- What one event makes of the sequence that is open on a hart.
use Rattle.std.proofs.Common.{◌≡◌, ℕ, ◌∷◌, refl, ap, ◌∙◌, Bool, true, false, not, cond, eqb, Option, Some, None}
use Rattle.mach_types.proofs.Laws.{eqb_same}
use Rattle.mach_types.specs.Events.{choice_with, is_instruction}
use Rattle.mach_types.specs.declared.events.Entry.{Entry}
use Rattle.mach_types.specs.declared.events.Kind.TheVariants as kind
use Rattle.block_model.specs.Acts.{Sequence, begun_with, is_inside_at, is_taken_in, sequence_on}
use Rattle.block_model.specs.Acts.{taken_up, with_event}
use Rattle.block_model.specs.Deciding.{number_of, thread_in}
use Rattle.block_model.specs.History.{Event, History, here_in_history, running}
use Rattle.block_model.specs.Setting.{Setting}
use Rattle.block_model.proofs.Laws.{IsStep}

module _ (s : Setting) (h : ℕ) (e : Event) (before : History) where
  -- an event of another hart leaves it
  pub still_open : eqb e.entry.hart.0 h ≡ false → sequence_on s h (e ∷ before) ≡ sequence_on s h before
  still_open apart =
      ap (λ b. cond (not b) (sequence_on s h before)
      (cond (is_inside_at s h before) (taken_up h e before (sequence_on s h before)) None)) apart

  module _ (own : e.entry.hart.0 ≡ h) where
    of_hart : eqb e.entry.hart.0 h ≡ true
    of_hart = ap (λ n. eqb n h) own ∙ eqb_same h

    -- where the thread is inside nothing, none is open after it
    pub none_open : is_inside_at s h before ≡ false → sequence_on s h (e ∷ before) ≡ None
    none_open out =
        ap (λ b. cond (not b) (sequence_on s h before)
        (cond (is_inside_at s h before) (taken_up h e before (sequence_on s h before)) None)) of_hart
        ∙ ap (λ b. cond b (taken_up h e before (sequence_on s h before)) None) out

    -- where it is inside, the event is taken up
    taken : (o : Option Sequence) → is_inside_at s h before ≡ true → sequence_on s h before ≡ o
        → sequence_on s h (e ∷ before) ≡ taken_up h e before o
    taken o inside was =
        ap (λ b. cond (not b) (sequence_on s h before)
        (cond (is_inside_at s h before) (taken_up h e before (sequence_on s h before)) None)) of_hart
        ∙ ap (λ b. cond b (taken_up h e before (sequence_on s h before)) None) inside
        ∙ ap (taken_up h e before) was

    -- a store that enters memory begins none, and goes on with one; so does an instruction, which begins one
    pub none_drained : e.entry.kind ≡ kind.Drain → sequence_on s h before ≡ None
        → sequence_on s h (e ∷ before) ≡ None
    none_drained is none = by_case (is_inside_at s h before) refl
      where
        by_case : (c : Bool) → is_inside_at s h before ≡ c → sequence_on s h (e ∷ before) ≡ None
        by_case true inside = taken None inside none
            ∙ ap (λ k. cond (is_instruction k) (Some (begun_with h e before)) None) is
        by_case false out = none_open out

    module _ (inside : is_inside_at s h before ≡ true) where
      pub one_drained : (q : Sequence) → e.entry.kind ≡ kind.Drain → sequence_on s h before ≡ Some q
          → sequence_on s h (e ∷ before) ≡ Some (with_event e before q)
      one_drained q is was = taken (Some q) inside was
          ∙ ap (λ k. cond (is_taken_in k e.done.interrupted) (Some (with_event e before q)) None) is

      pub one_executed : (q : Sequence) → e.entry.kind ≡ kind.Exec → sequence_on s h before ≡ Some q
          → sequence_on s h (e ∷ before) ≡ Some (with_event e before q)
      one_executed q is was = taken (Some q) inside was
          ∙ ap (λ k. cond (is_taken_in k e.done.interrupted) (Some (with_event e before q)) None) is

      pub one_begun : e.entry.kind ≡ kind.Exec → sequence_on s h before ≡ None
          → sequence_on s h (e ∷ before) ≡ Some (begun_with h e before)
      one_begun is none = taken None inside none
          ∙ ap (λ k. cond (is_instruction k) (Some (begun_with h e before)) None) is

    -- an instruction is one of the thread that runs there
    pub its_thread : (t : ℕ) → IsStep s e before → e.entry.kind ≡ kind.Exec → running s h before ≡ Some t
        → e.entry.tid.0 ≡ t
    its_thread t step is runs =
        let here = here_in_history s before e.entry.hart.0 in
        ap (λ (x : Entry). x.tid.0) step.is
        ∙ ap (λ k. number_of (thread_in (choice_with k e.entry) here)) is
        ∙ ap (λ k. number_of (running s k before)) own ∙ ap number_of runs
