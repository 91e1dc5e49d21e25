-- The acts at a place by their index: where each comes from, and that those which go on or hang are the sequences that are read by looking
-- back, each once.
use Rattle.std.proofs.Common.{◌≡◌, ℕ, zero, suc, ◌&&◌, not, List, [], ◌∷◌, ◌++◌, length, map, slice_get, refl, sym, ap, ◌∙◌, subst, arith, Bool, true, false, cond, Option, Some, None}
use Rattle.std.proofs.lemmas.Bool.{eqb-true}
use Rattle.block_model.specs.Acts.{Sequence, end_at_verdict, end_before, is_inside_at, is_taken_in, sequence_on, with_event}
use Rattle.block_model.specs.History.{Event, History, is_of_hart}
use Rattle.block_model.specs.Setting.{Setting}
use Rattle.block_view.specs.Acts.{act_of, begins_to_run}
use Rattle.mach_types.specs.Events.{is_preempt}
use Rattle.block_view.specs.Standing.{Standing, after, begun, begun_by, standings}
use Rattle.block_view.specs.Standing.Standing.{Over, Going, Hanging}
use Rattle.block_view.specs.declared.forms.Act.{Act}
use Rattle.block_view.proofs.Indices.{InFirst, InSecond, at_seam, changed, comes_from, in_changed, in_first}
use Rattle.block_view.proofs.Sequences.{Begins, Stays, Takes, hart_is, is_from, still_on, taken_on}

-- WHERE AN ACT COMES FROM

-- an act after an event: what the event made of the one at its index; or the one that began with it, which is the last
pub data Came (s : Setting) (e : Event) (before : History) (i : ℕ) (y : Standing) : Type 0 where
  Stood : (x : Standing) → slice_get (standings s before) i ≡ Some x → after s e before x ≡ y → Came s e before i y
  Began : i ≡ length (standings s before) → begun s e before ≡ y ∷ [] → Came s e before i y

-- at most one begins with an event
only_one : (e : Event) (before : History) (earlier now : Option Sequence) (k : ℕ) (y : Standing)
    → slice_get (begun_by e before earlier now) k ≡ Some y
    → (k ≡ 0) × (begun_by e before earlier now ≡ y ∷ [])
only_one e before earlier None zero y at = (refl, cc)
only_one e before earlier None (suc k) y at = absurd cc
only_one e before None (Some q) zero y at = (refl, cc)
only_one e before None (Some q) (suc k) y at = absurd cc
only_one e before (Some r) (Some q) k y at = absurd cc

-- a list that is changed is as long
length_map : {A B : Type 0} (f : A → B) (xs : List A) → length (map f xs) ≡ length xs
length_map f [] = refl
length_map f (x ∷ xs) = let rest = length_map f xs in omega arith

-- each act is one of these
pub came : (s : Setting) (e : Event) (before : History) (i : ℕ) (y : Standing) → slice_get (standings s (e ∷ before)) i ≡ Some y → Came s e before i y
came s e before i y at = elim (comes_from (map (after s e before) (standings s before)) (begun s e before) i y at) [
  | InFirst first ↦ let from = changed (after s e before) (standings s before) i y first in Stood from.from from.at from.is
  | InSecond k place second ↦
      let one = only_one e before (sequence_on s e.entry.hart.0 before) (sequence_on s e.entry.hart.0 (e ∷ before)) k y second in
      let same = length_map (after s e before) (standings s before) in
      Began (omega arith) one.1
]

-- and the other way round
pub stands : (s : Setting) (e : Event) (before : History) (i : ℕ) (x : Standing) → slice_get (standings s before) i ≡ Some x
    → slice_get (standings s (e ∷ before)) i ≡ Some (after s e before x)
stands s e before i x at =
    in_first (map (after s e before) (standings s before)) (begun s e before) i (after s e before x)
    (in_changed (after s e before) (standings s before) i x at)

-- the act that begins with an event is the last
pub begins_last : (s : Setting) (e : Event) (before : History) (y : Standing) → begun s e before ≡ y ∷ []
    → slice_get (standings s (e ∷ before)) (length (standings s before)) ≡ Some y
begins_last s e before y is =
    let acts = map (after s e before) (standings s before) in
    ap (slice_get (standings s (e ∷ before))) (sym (length_map (after s e before) (standings s before)))
    ∙ ap (λ (new : List Standing). slice_get (acts ++ new) (length acts)) is
    ∙ at_seam acts [] y

-- a sequence that goes on after an event: one that the event didn't touch, or that takes it in
pub data GoesOn (s : Setting) (e : Event) (before : History) (x : Standing) (q : Sequence) : Type 0 where
  Kept : x ≡ Going q → is_of_hart q.hart e ≡ false → GoesOn s e before x q
  Took : (r : Sequence) → x ≡ Going r → is_of_hart r.hart e ≡ true → is_inside_at s r.hart before ≡ true
      → is_taken_in e.entry.kind e.done.interrupted ≡ true → with_event e before r ≡ q → GoesOn s e before x q

-- one that hangs after an event: its thread was preempted inside by it, or hung before and doesn't begin to run by it
pub data Hangs (s : Setting) (e : Event) (before : History) (x : Standing) (q : Sequence) : Type 0 where
  Left : x ≡ Going q → is_of_hart q.hart e ≡ true → is_inside_at s q.hart before ≡ true → is_preempt e.entry.kind ≡ true → Hangs s e before x q
  Hung : x ≡ Hanging q → begins_to_run q.thread e ≡ false → Hangs s e before x q

module _ (s : Setting) (e : Event) (before : History) (r q : Sequence) where
  abbrev ended : Act
  ended = act_of (record { sequence = r; end = end_before s r e before })

  goes_on_by : (own inside taken preempted : Bool) → is_of_hart r.hart e ≡ own → is_inside_at s r.hart before ≡ inside
      → is_taken_in e.entry.kind e.done.interrupted ≡ taken
      → cond (not own) (Going r) (cond (inside && taken) (Going (with_event e before r)) (cond (inside && preempted) (Hanging r) (Over ended)))
      ≡ Going q
      → GoesOn s e before (Going r) q
  goes_on_by false inside taken preempted other _ _ is =
      let same : r ≡ q = cc in Kept (ap Going same) (ap (λ (x : Sequence). is_of_hart x.hart e) (sym same) ∙ other)
  goes_on_by true true true preempted own is_inside takes is = Took r refl own is_inside takes cc
  goes_on_by true true false true own _ _ is = absurd cc
  goes_on_by true true false false own _ _ is = absurd cc
  goes_on_by true false taken preempted own _ _ is = absurd cc

  hangs_by : (own inside taken preempted : Bool) → is_of_hart r.hart e ≡ own → is_inside_at s r.hart before ≡ inside
      → is_preempt e.entry.kind ≡ preempted
      → cond (not own) (Going r) (cond (inside && taken) (Going (with_event e before r)) (cond (inside && preempted) (Hanging r) (Over ended)))
      ≡ Hanging q
      → Hangs s e before (Going r) q
  hangs_by false inside taken preempted other _ _ is = absurd cc
  hangs_by true true true preempted own _ _ is = absurd cc
  hangs_by true true false true own is_inside preempts is =
      let same : r ≡ q = cc in
      Left (ap Going same) (ap (λ (x : Sequence). is_of_hart x.hart e) (sym same) ∙ own)
      (ap (λ (x : Sequence). is_inside_at s x.hart before) (sym same) ∙ is_inside) preempts
  hangs_by true true false false own _ _ is = absurd cc
  hangs_by true false taken preempted own _ _ is = absurd cc

  over_or_hangs : (b : Bool) (act : Act) → begins_to_run r.thread e ≡ b → cond b (Over act) (Hanging r) ≡ Hanging q → Hangs s e before (Hanging r) q
  over_or_hangs true act runs is = absurd cc
  over_or_hangs false act isnt is =
      let same : r ≡ q = cc in Hung (ap Hanging same) (ap (λ (x : Sequence). begins_to_run x.thread e) (sym same) ∙ isnt)

  over_or_hanging : (b : Bool) (act : Act) → cond b (Over act) (Hanging r) ≡ Going q → ⊥
  over_or_hanging true act is = cc
  over_or_hanging false act is = cc

-- each that goes on is one of these
pub goes_on : (s : Setting) (e : Event) (before : History) (x : Standing) (q : Sequence) → after s e before x ≡ Going q → GoesOn s e before x q
goes_on s e before (Over act) q is = absurd cc
goes_on s e before (Going r) q is =
    goes_on_by s e before r q _ _ _ (is_preempt e.entry.kind) refl refl refl is
goes_on s e before (Hanging r) q is =
    absurd (over_or_hanging s e before r q (begins_to_run r.thread e) (act_of (record { sequence = r; end = end_at_verdict s r e before })) is)

-- each that hangs is one of these
pub hangs : (s : Setting) (e : Event) (before : History) (x : Standing) (q : Sequence) → after s e before x ≡ Hanging q → Hangs s e before x q
hangs s e before (Over act) q is = absurd cc
hangs s e before (Going r) q is =
    hangs_by s e before r q _ _ (is_taken_in e.entry.kind e.done.interrupted) _ refl refl refl is
hangs s e before (Hanging r) q is =
    over_or_hangs s e before r q (begins_to_run r.thread e) (act_of (record { sequence = r; end = end_at_verdict s r e before })) refl is

-- and the other way round
module _ (s : Setting) (e : Event) (before : History) (q : Sequence) where
  -- what becomes of one by an event of its hart that it doesn't take in
  abbrev left_or_over : Standing
  left_or_over =
      cond (is_inside_at s q.hart before && is_preempt e.entry.kind) (Hanging q)
      (Over (act_of (record { sequence = q; end = end_before s q e before })))

  pub stays_going : is_of_hart q.hart e ≡ false → after s e before (Going q) ≡ Going q
  stays_going other =
      ap (λ b. cond (not b) (Going q)
      (cond (is_inside_at s q.hart before && is_taken_in e.entry.kind e.done.interrupted) (Going (with_event e before q)) left_or_over))
      other

  pub takes_in : is_of_hart q.hart e ≡ true → is_inside_at s q.hart before ≡ true → is_taken_in e.entry.kind e.done.interrupted ≡ true
      → after s e before (Going q) ≡ Going (with_event e before q)
  takes_in own inside taken =
      ap (λ b. cond (not b) (Going q)
      (cond (is_inside_at s q.hart before && is_taken_in e.entry.kind e.done.interrupted) (Going (with_event e before q)) left_or_over))
      own
      ∙ ap (λ b. cond (b && is_taken_in e.entry.kind e.done.interrupted) (Going (with_event e before q)) left_or_over) inside
      ∙ ap (λ b. cond b (Going (with_event e before q)) left_or_over) taken

-- WHAT BEGINS WITH AN EVENT

-- a sequence begins with it where the hart's event before it was of none
pub record BeginsGoing (s : Setting) (e : Event) (before : History) (q : Sequence) : Type 0 where
  pub none : sequence_on s e.entry.hart.0 before ≡ None
  pub now : sequence_on s e.entry.hart.0 (e ∷ before) ≡ Some q

begins_going_by : (s : Setting) (e : Event) (before : History) (q : Sequence) (earlier now : Option Sequence)
    → sequence_on s e.entry.hart.0 before ≡ earlier → sequence_on s e.entry.hart.0 (e ∷ before) ≡ now
    → begun_by e before earlier now ≡ Going q ∷ [] → BeginsGoing s e before q
begins_going_by s e before q earlier None was is begins = absurd cc
begins_going_by s e before q None (Some r) was is begins = record { none = was; now = cc }
begins_going_by s e before q (Some p) (Some r) was is begins = absurd cc

-- each sequence that begins is one of these
pub begins_going : (s : Setting) (e : Event) (before : History) (q : Sequence) → begun s e before ≡ Going q ∷ [] → BeginsGoing s e before q
begins_going s e before q begins =
    begins_going_by s e before q (sequence_on s e.entry.hart.0 before) (sequence_on s e.entry.hart.0 (e ∷ before)) refl refl begins

-- and none begins with it that hangs
pub never_hanging : (e : Event) (before : History) (q : Sequence) (earlier now : Option Sequence) → begun_by e before earlier now ≡ Hanging q ∷ [] → ⊥
never_hanging e before q earlier None begins = cc
never_hanging e before q None (Some r) begins = cc
never_hanging e before q (Some p) (Some r) begins = cc

-- SEQUENCES THAT GO ON

-- one that goes on is the one that the newest event of its hart is of
pub going_is_on : (s : Setting) (before : History) (i : ℕ) (q : Sequence) → slice_get (standings s before) i ≡ Some (Going q)
    → sequence_on s q.hart before ≡ Some q
going_is_on s [] i q at = absurd cc
going_is_on s (e ∷ before) i q at = elim (came s e before i (Going q) at) [
  | Stood x was is ↦ elim (goes_on s e before x q is) [
    | Kept same other ↦ still_on s e before q.hart other ∙ going_is_on s before i q (was ∙ ap Some same)
    | Took r same own inside taken now ↦
        subst (λ (p : Sequence). sequence_on s p.hart (e ∷ before) ≡ Some p) now
        (taken_on s e before r.hart r own inside taken (going_is_on s before i r (was ∙ ap Some same)))
  ]
  | Began place begins ↦
      let one = begins_going s e before q begins in
      ap (λ h. sequence_on s h (e ∷ before)) (hart_is s (e ∷ before) e.entry.hart.0 q one.now) ∙ one.now
]

-- the act of the sequence that the newest event of a hart is of
pub record IsAmong (s : Setting) (before : History) (q : Sequence) : Type 0 where
  pub place : ℕ
  pub at : slice_get (standings s before) place ≡ Some (Going q)

-- where the hart was in none before, the sequence that it is in is the act that begins
begun_goes : (s : Setting) (e : Event) (before : History) (q : Sequence) → sequence_on s e.entry.hart.0 before ≡ None
    → sequence_on s e.entry.hart.0 (e ∷ before) ≡ Some q → begun s e before ≡ Going q ∷ []
begun_goes s e before q none now =
    ap (λ (o : Option Sequence). begun_by e before o (sequence_on s e.entry.hart.0 (e ∷ before))) none
    ∙ ap (begun_by e before None) now

-- it is among those that go on
pub on_is_going : (s : Setting) (before : History) (h : ℕ) (q : Sequence) → sequence_on s h before ≡ Some q → IsAmong s before q
on_is_going s [] h q on = absurd cc
on_is_going s (e ∷ before) h q on = elim (is_from s e before h q on) [
  | Stays other was ↦
      let earlier = on_is_going s before h q was in
      let apart : is_of_hart q.hart e ≡ false = ap (λ k. is_of_hart k e) (hart_is s before h q was) ∙ other in
      record { place = earlier.place; at = stands s e before earlier.place (Going q) earlier.at ∙ ap Some (stays_going s e before q apart) }
  | Begins own none same ↦
      let hart : e.entry.hart.0 ≡ h = eqb-true e.entry.hart.0 h own in
      let starts = begun_goes s e before q (ap (λ k. sequence_on s k before) hart ∙ none) (ap (λ k. sequence_on s k (e ∷ before)) hart ∙ on) in
      record { place = length (standings s before); at = begins_last s e before (Going q) starts }
  | Takes r own inside taken was same ↦
      let earlier = on_is_going s before h r was in
      let hart = hart_is s before h r was in
      record {
        place = earlier.place;
        at = stands s e before earlier.place (Going r) earlier.at
            ∙ ap Some (takes_in s e before r (ap (λ k. is_of_hart k e) hart ∙ own) (ap (λ k. is_inside_at s k before) hart ∙ inside) taken)
            ∙ ap (λ (p : Sequence). Some (Going p)) same;
      }
]

-- one that goes on after an event went on before it, on the same hart
record Went (x : Standing) (h : ℕ) : Type 0 where
  earlier : Sequence
  was : x ≡ Going earlier
  hart : earlier.hart ≡ h

-- each that goes on is one
went : (s : Setting) (e : Event) (before : History) (x : Standing) (q : Sequence) → GoesOn s e before x q → Went x q.hart
went s e before x q (Kept same other) = record { earlier = q; was = same; hart = refl }
went s e before x q (Took r same own inside taken now) = record { earlier = r; was = same; hart = ap (λ (p : Sequence). p.hart) now }

-- none goes on of a hart on which one begins
not_both : (s : Setting) (e : Event) (before : History) (i : ℕ) (x : Standing) (q r : Sequence) → slice_get (standings s before) i ≡ Some x
    → after s e before x ≡ Going q → begun s e before ≡ Going r ∷ [] → q.hart ≡ r.hart → ⊥
not_both s e before i x q r at is begins same =
    let one = went s e before x q (goes_on s e before x q is) in
    let new = begins_going s e before r begins in
    let on = going_is_on s before i one.earlier (at ∙ ap Some one.was) in
    let none = ap (λ h. sequence_on s h before) (one.hart ∙ same ∙ hart_is s (e ∷ before) e.entry.hart.0 r new.now) ∙ new.none in
    cc

-- of each hart at most one goes on
pub one_going : (s : Setting) (before : History) (i j : ℕ) (q r : Sequence) → slice_get (standings s before) i ≡ Some (Going q)
    → slice_get (standings s before) j ≡ Some (Going r) → q.hart ≡ r.hart → i ≡ j
one_going s [] i j q r here there same = absurd cc
one_going s (e ∷ before) i j q r here there same = elim (came s e before i (Going q) here) [
  | Stood x at is ↦ elim (came s e before j (Going r) there) [
    | Stood y beside becomes ↦
        let one = went s e before x q (goes_on s e before x q is) in
        let other = went s e before y r (goes_on s e before y r becomes) in
        one_going s before i j one.earlier other.earlier (at ∙ ap Some one.was) (beside ∙ ap Some other.was) (one.hart ∙ same ∙ sym other.hart)
    | Began place begins ↦ absurd (not_both s e before i x q r at is begins same)
  ]
  | Began place begins ↦ elim (came s e before j (Going r) there) [
    | Stood y beside becomes ↦ absurd (not_both s e before j y r q beside becomes begins (sym same))
    | Began last _ ↦ place ∙ sym last
  ]
]
