-- How the sequence that a hart's newest event is of comes from the one before it.
use Rattle.std.proofs.Common.{◌≡◌, ℕ, not, [], ◌∷◌, refl, sym, ap, ◌∙◌, Bool, true, false, cond, Option, Some, None}
use Rattle.mach_types.proofs.Laws.{eqb_same}
use Rattle.block_model.specs.Acts.{Sequence, begun_with, is_inside_at, is_taken_in, sequence_on, taken_up, with_event}
use Rattle.mach_types.specs.Events.{is_instruction}
use Rattle.block_model.specs.History.{Event, History, is_of_hart}
use Rattle.block_model.specs.Setting.{Setting}

-- how the sequence of hart h came to be after an event: the event is of another hart; or the sequence begins with it; or takes it in
pub data IsFrom (s : Setting) (e : Event) (before : History) (h : ℕ) (q : Sequence) : Type 0 where
  Stays : is_of_hart h e ≡ false → sequence_on s h before ≡ Some q → IsFrom s e before h q
  Begins : is_of_hart h e ≡ true → sequence_on s h before ≡ None → begun_with h e before ≡ q → IsFrom s e before h q
  Takes : (r : Sequence) → is_of_hart h e ≡ true → is_inside_at s h before ≡ true → is_taken_in e.entry.kind e.done.interrupted ≡ true
      → sequence_on s h before ≡ Some r → with_event e before r ≡ q → IsFrom s e before h q

module _ (s : Setting) (e : Event) (before : History) (h : ℕ) (q : Sequence) where
  begins : (b : Bool) → is_of_hart h e ≡ true → sequence_on s h before ≡ None → cond b (Some (begun_with h e before)) None ≡ Some q
      → IsFrom s e before h q
  begins true own none is = Begins own none cc
  begins false own none is = absurd cc

  takes : (r : Sequence) (b : Bool) → is_taken_in e.entry.kind e.done.interrupted ≡ b → is_of_hart h e ≡ true → is_inside_at s h before ≡ true
      → sequence_on s h before ≡ Some r → cond b (Some (with_event e before r)) None ≡ Some q → IsFrom s e before h q
  takes r true taken own inside was is = Takes r own inside taken was cc
  takes r false taken own inside was is = absurd cc

  by_earlier : (o : Option Sequence) → sequence_on s h before ≡ o → is_of_hart h e ≡ true → is_inside_at s h before ≡ true
      → taken_up h e before o ≡ Some q → IsFrom s e before h q
  by_earlier None was own inside is = begins (is_instruction e.entry.kind) own was is
  by_earlier (Some r) was own inside is = takes r (is_taken_in e.entry.kind e.done.interrupted) refl own inside was is

  by_inside : (b : Bool) → is_inside_at s h before ≡ b → is_of_hart h e ≡ true
      → cond b (taken_up h e before (sequence_on s h before)) None ≡ Some q → IsFrom s e before h q
  by_inside true inside own is = by_earlier (sequence_on s h before) refl own inside is
  by_inside false inside own is = absurd cc

  by_hart : (b : Bool) → is_of_hart h e ≡ b
      → cond (not b) (sequence_on s h before) (cond (is_inside_at s h before) (taken_up h e before (sequence_on s h before)) None) ≡ Some q
      → IsFrom s e before h q
  by_hart true own is = by_inside (is_inside_at s h before) refl own is
  by_hart false other is = Stays other is

  -- each sequence is one of these
  pub is_from : sequence_on s h (e ∷ before) ≡ Some q → IsFrom s e before h q
  is_from is = by_hart (is_of_hart h e) refl is

-- an event of another hart
pub still_on : (s : Setting) (e : Event) (before : History) (h : ℕ) → is_of_hart h e ≡ false → sequence_on s h (e ∷ before) ≡ sequence_on s h before
still_on s e before h other =
    ap (λ b. cond (not b) (sequence_on s h before) (cond (is_inside_at s h before) (taken_up h e before (sequence_on s h before)) None)) other

-- an event that a sequence takes in
pub taken_on : (s : Setting) (e : Event) (before : History) (h : ℕ) (r : Sequence) → is_of_hart h e ≡ true → is_inside_at s h before ≡ true
    → is_taken_in e.entry.kind e.done.interrupted ≡ true → sequence_on s h before ≡ Some r
    → sequence_on s h (e ∷ before) ≡ Some (with_event e before r)
taken_on s e before h r own inside taken was =
    ap (λ b. cond (not b) (sequence_on s h before) (cond (is_inside_at s h before) (taken_up h e before (sequence_on s h before)) None)) own
    ∙ ap (λ b. cond b (taken_up h e before (sequence_on s h before)) None) inside
    ∙ ap (taken_up h e before) was
    ∙ ap (λ b. cond b (Some (with_event e before r)) None) taken

-- an event is of its own hart
pub own_hart : (e : Event) → is_of_hart e.entry.hart.0 e ≡ true
own_hart e = eqb_same e.entry.hart.0

-- the sequence of a hart is one of that hart
pub hart_is : (s : Setting) (before : History) (h : ℕ) (q : Sequence) → sequence_on s h before ≡ Some q → q.hart ≡ h
hart_is s [] h q is = absurd cc
hart_is s (e ∷ before) h q is = elim (is_from s e before h q is) [
  | Stays other was ↦ hart_is s before h q was
  | Begins own none same ↦ ap (λ (r : Sequence). r.hart) (sym same)
  | Takes r own inside taken was same ↦ ap (λ (r : Sequence). r.hart) (sym same) ∙ hart_is s before h r was
]
