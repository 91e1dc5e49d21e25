-- From which entry to which an act reaches, at each place: an event makes at most one longer, or begins one.
use Rattle.std.proofs.Common.{◌≡◌, ◌≤◌, ◌<◌, ℕ, zero, suc, ◌+◌, ◌&&◌, not, [], ◌∷◌, length, slice_get, refl, sym, ap, ◌∙◌, subst, arith, Bool, true, false, cond, Option, Some, None}
use Rattle.std.proofs.lemmas.Bool.{eqb-false, false≢true}
use Rattle.std.proofs.lemmas.Option.{slice_get_within}
use Rattle.mach_types.specs.Events.{is_preempt}
use Rattle.mach_types.specs.declared.events.Entry.{Entry}
use Rattle.mach_types.specs.declared.events.Hart.{Hart}
use Rattle.block_model.specs.Acts.{Sequence, end_at_verdict, end_before, is_inside_at, is_taken_in, sequence_on, with_event}
use Rattle.block_model.specs.History.{Event, History, is_of_hart}
use Rattle.block_model.specs.Setting.{Setting}
use Rattle.block_view.specs.Acts.{act_alone, act_of, begins_to_run}
use Rattle.block_view.specs.Entries.{HasEntry, IsWithin}
use Rattle.block_view.specs.Standing.{Standing, after, begun, begun_by, listed, standings}
use Rattle.block_view.specs.Standing.Standing.{Over, Going, Hanging}
use Rattle.block_view.specs.declared.forms.Act.{Act}
use Rattle.block_view.proofs.Indices.{InFirst, InSecond, comes_from}
use Rattle.block_view.proofs.Logs.{entries, length_entries}
use Rattle.block_view.proofs.Places.{Began, Stood, came}
use Rattle.block_view.proofs.Sequences.{Begins, IsFrom, Stays, Takes, is_from, own_hart, taken_on}

-- two acts of one hart that reach from one entry to one
pub record IsAlike (a b : Act) : Type 0 where
  pub hart : a.hart ≡ b.hart
  pub first : a.first ≡ b.first
  pub last : a.last ≡ b.last

-- they have the same entries
pub has_alike : (a b : Act) (n : ℕ) (entry : Entry) → IsAlike a b → HasEntry b n entry → HasEntry a n entry
has_alike a b n entry alike has = record {
  hart = alike.hart ∙ has.hart;
  from = let low = has.from in let same = alike.first in omega arith;
  to = let high = has.to in let same = alike.last in omega arith;
}

pub is_alike_back : {a b : Act} → IsAlike a b → IsAlike b a
is_alike_back alike = record { hart = sym alike.hart; first = sym alike.first; last = sym alike.last }

-- WHAT AN EVENT MAKES OF AN ACT

-- it reaches as far as before; or is a sequence that takes in the event
pub data Grows (s : Setting) (e : Event) (before : History) (x y : Standing) : Type 0 where
  AsFar : IsAlike (listed y) (listed x) → Grows s e before x y
  Longer : (r : Sequence) → x ≡ Going r → is_of_hart r.hart e ≡ true → is_inside_at s r.hart before ≡ true
      → is_taken_in e.entry.kind e.done.interrupted ≡ true → y ≡ Going (with_event e before r) → Grows s e before x y

alike_itself : (act : Act) → IsAlike act act
alike_itself act = record { hart = refl; first = refl; last = refl }

module _ (s : Setting) (e : Event) (before : History) (r : Sequence) where
  going_grows : (own inside taken preempted : Bool) (act : Act) → is_of_hart r.hart e ≡ own → is_inside_at s r.hart before ≡ inside
      → is_taken_in e.entry.kind e.done.interrupted ≡ taken → IsAlike act (listed (Going r))
      → Grows s e before (Going r)
      (cond (not own) (Going r) (cond (inside && taken) (Going (with_event e before r)) (cond (inside && preempted) (Hanging r) (Over act))))
  going_grows false inside taken preempted act _ _ _ alike = AsFar (alike_itself (listed (Going r)))
  going_grows true true true preempted act own is_inside takes alike = Longer r refl own is_inside takes refl
  going_grows true true false true act _ _ _ alike = AsFar (alike_itself (listed (Going r)))
  going_grows true true false false act _ _ _ alike = AsFar alike
  going_grows true false taken preempted act _ _ _ alike = AsFar alike

  hanging_grows : (runs : Bool) (act : Act) → IsAlike act (listed (Hanging r)) → Grows s e before (Hanging r) (cond runs (Over act) (Hanging r))
  hanging_grows true act alike = AsFar alike
  hanging_grows false act alike = AsFar (alike_itself (listed (Hanging r)))

-- so it is for each act
pub grows : (s : Setting) (e : Event) (before : History) (x : Standing) → Grows s e before x (after s e before x)
grows s e before (Over act) = AsFar (alike_itself act)
grows s e before (Going r) =
    going_grows s e before r
    (is_of_hart r.hart e) (is_inside_at s r.hart before) (is_taken_in e.entry.kind e.done.interrupted) (is_preempt e.entry.kind)
    (act_of (record { sequence = r; end = end_before s r e before })) refl refl refl (record { hart = refl; first = refl; last = refl })
grows s e before (Hanging r) =
    hanging_grows s e before r (begins_to_run r.thread e) (act_of (record { sequence = r; end = end_at_verdict s r e before }))
    (record { hart = refl; first = refl; last = refl })

-- THE ACT THAT BEGINS WITH AN EVENT

-- it has the event alone, and no sequence takes the event in
pub record IsNew (s : Setting) (e : Event) (before : History) (x : Standing) : Type 0 where
  pub hart : (listed x).hart ≡ e.entry.hart
  pub first : (listed x).first ≡ length before + 1
  pub last : (listed x).last ≡ length before + 1
  pub alone : (r : Sequence) → sequence_on s e.entry.hart.0 before ≡ Some r → is_inside_at s e.entry.hart.0 before ≡ true
      → is_taken_in e.entry.kind e.done.interrupted ≡ true → ⊥

-- a hart is known by its number
pub of_hart : (h : Hart) (n : ℕ) → n ≡ h.0 → ◌≡◌ {A = Hart} (record { 0 = n }) h
of_hart h n same = λ i. record { 0 = same i }

module _ (s : Setting) (e : Event) (before : History) where
  -- where the event is of no sequence, it is an act by itself
  alone_is_new : sequence_on s e.entry.hart.0 (e ∷ before) ≡ None → IsNew s e before (Over (act_alone e before))
  alone_is_new none = record {
    hart = refl;
    first = refl;
    last = refl;
    alone = λ r was inside taken.
        let now = taken_on s e before e.entry.hart.0 r (own_hart e) inside taken was in
        let no : None ≡ Some (with_event e before r) = sym none ∙ now in
        cc;
  }

  -- where a sequence begins with it, that is the act
  sequence_is_new : (q : Sequence) → sequence_on s e.entry.hart.0 before ≡ None → IsFrom s e before e.entry.hart.0 q → IsNew s e before (Going q)
  sequence_is_new q none (Stays other was) = absurd (false≢true (sym other ∙ own_hart e))
  sequence_is_new q none (Takes r own inside taken was same) = absurd cc
  sequence_is_new q none (Begins own _ same) = subst (λ (x : Sequence). IsNew s e before (Going x)) same (record {
    hart = refl;
    first = refl;
    last = omega arith;
    alone = λ r was inside taken. let no : None ≡ Some r = sym none ∙ was in cc;
  })

  new_by : (x : Standing) (earlier now : Option Sequence) → sequence_on s e.entry.hart.0 before ≡ earlier
      → sequence_on s e.entry.hart.0 (e ∷ before) ≡ now → begun_by e before earlier now ≡ x ∷ [] → IsNew s e before x
  new_by x earlier None was is begins =
      let same : Over (act_alone e before) ≡ x = cc in subst (IsNew s e before) same (alone_is_new is)
  new_by x None (Some q) was is begins =
      let same : Going q ≡ x = cc in subst (IsNew s e before) same (sequence_is_new q was (is_from s e before e.entry.hart.0 q is))
  new_by x (Some p) (Some q) was is begins = absurd cc

  -- so it is for each act that begins
  pub is_new : (x : Standing) → begun s e before ≡ x ∷ [] → IsNew s e before x
  is_new x begins = new_by x (sequence_on s e.entry.hart.0 before) (sequence_on s e.entry.hart.0 (e ∷ before)) refl refl begins

-- one begins, or a sequence takes the event in
pub data HasNewest (s : Setting) (e : Event) (before : History) : Type 0 where
  InNew : (x : Standing) → begun s e before ≡ x ∷ [] → HasNewest s e before
  InLonger : (r : Sequence) → is_inside_at s e.entry.hart.0 before ≡ true → is_taken_in e.entry.kind e.done.interrupted ≡ true
      → sequence_on s e.entry.hart.0 before ≡ Some r → HasNewest s e before

module _ (s : Setting) (e : Event) (before : History) where
  newest_of : (q : Sequence) → sequence_on s e.entry.hart.0 (e ∷ before) ≡ Some q → IsFrom s e before e.entry.hart.0 q → HasNewest s e before
  newest_of q is (Stays other was) = absurd (false≢true (sym other ∙ own_hart e))
  newest_of q is (Takes r own inside taken was same) = InLonger r inside taken was
  newest_of q is (Begins own none same) =
      InNew (Going q)
      (ap (λ (o : Option Sequence). begun_by e before o (sequence_on s e.entry.hart.0 (e ∷ before))) none ∙ ap (begun_by e before None) is)

  newest_by : (now : Option Sequence) → sequence_on s e.entry.hart.0 (e ∷ before) ≡ now → HasNewest s e before
  newest_by None is = InNew (Over (act_alone e before)) (ap (begun_by e before (sequence_on s e.entry.hart.0 before)) is)
  newest_by (Some q) is = newest_of q is (is_from s e before e.entry.hart.0 q is)

  -- so it is at each event
  pub has_newest : HasNewest s e before
  has_newest = newest_by (sequence_on s e.entry.hart.0 (e ∷ before)) refl

-- EACH ACT LIES WITHIN THE LOG

-- an act that stood lies within the log after one event more
within_more : (s : Setting) (e : Event) (before : History) (x y : Standing) → Grows s e before x y → IsWithin (length before) (listed x)
    → IsWithin (length (e ∷ before)) (listed y)
within_more s e before x y (AsFar alike) was =
    let first = alike.first in
    let last = alike.last in
    let start = was.start in
    let order = was.order in
    let end = was.end in
    record { start = omega arith; order = omega arith; end = omega arith }
within_more s e before x y (Longer r is own inside taken now) was =
    let earlier = subst (λ (z : Standing). IsWithin (length before) (listed z)) is was in
    let order = earlier.order in
    let end = earlier.end in
    subst (λ (z : Standing). IsWithin (length (e ∷ before)) (listed z)) (sym now)
    (record { start = omega arith; order = omega arith; end = omega arith })

-- and so does one that begins with the event
within_new : (s : Setting) (e : Event) (before : History) (x : Standing) → IsNew s e before x → IsWithin (length (e ∷ before)) (listed x)
within_new s e before x new =
    let first = new.first in
    let last = new.last in
    record { start = omega arith; order = omega arith; end = omega arith }

-- so it is for each act
pub within : (s : Setting) (before : History) (i : ℕ) (x : Standing) → slice_get (standings s before) i ≡ Some x → IsWithin (length before) (listed x)
within s [] i x at = absurd cc
within s (e ∷ before) i x at = elim (came s e before i x at) [
  | Stood w was is ↦ within_more s e before w x (subst (Grows s e before w) is (grows s e before w)) (within s before i w was)
  | Began place begins ↦ within_new s e before x (is_new s e before x begins)
]

-- A SEQUENCE HAS ALL ENTRIES OF ITS HART FROM ITS FIRST ON

-- a list of one entry has that one
one_entry : (x entry : Entry) (k : ℕ) → slice_get (x ∷ []) k ≡ Some entry → (k ≡ 0) × (x ≡ entry)
one_entry x entry zero at = (refl, cc)
one_entry x entry (suc k) at = absurd cc

-- the newest entry, or an earlier one
pub data IsNewestOr (e : Event) (before : History) (k : ℕ) (entry : Entry) : Type 0 where
  Newest : k ≡ length before → e.entry ≡ entry → IsNewestOr e before k entry
  Earlier : slice_get (entries before) k ≡ Some entry → k < length before → IsNewestOr e before k entry

-- each entry is one of these
pub newest_or : (e : Event) (before : History) (k : ℕ) (entry : Entry) → slice_get (entries (e ∷ before)) k ≡ Some entry → IsNewestOr e before k entry
newest_or e before k entry at = elim (comes_from (entries before) (e.entry ∷ []) k entry at) [
  | InFirst first ↦ Earlier first (let lt = slice_get_within (entries before) k entry first in let same = length_entries before in omega arith)
  | InSecond j place second ↦
      let one = one_entry e.entry entry j second in
      Newest (let none = one.0 in let same = length_entries before in omega arith) one.1
]

-- it isn't behind the newest
not_past : (e : Event) (before : History) (k n : ℕ) (entry : Entry) → IsNewestOr e before k entry → n ≡ length (e ∷ before) → n ≤ k → ⊥
not_past e before k n entry (Newest place same) whole behind = omega arith
not_past e before k n entry (Earlier at lt) whole behind = omega arith

-- no entry of its hart is behind its last so far
module _ (s : Setting) (e : Event) (before : History) (h : ℕ) (q : Sequence) (k : ℕ) (entry : Entry) where
  none_behind : IsFrom s e before h q → IsNewestOr e before k entry → length q.reached ≤ k → entry.hart.0 ≡ h
      → (sequence_on s h before ≡ Some q → slice_get (entries before) k ≡ Some entry → ⊥) → ⊥
  none_behind (Stays other was) (Earlier at lt) behind own rest = rest was at
  none_behind (Stays other was) (Newest place same) behind own rest =
      eqb-false e.entry.hart.0 h other (ap (λ (x : Entry). x.hart.0) same ∙ own)
  none_behind (Begins _ none same) is behind own rest =
      not_past e before k (length q.reached) entry is (ap (λ (r : Sequence). length r.reached) (sym same)) behind
  none_behind (Takes r _ _ _ was same) is behind own rest =
      not_past e before k (length q.reached) entry is (ap (λ (r : Sequence). length r.reached) (sym same)) behind

-- so a sequence has all entries of its hart from its first on
pub has_all : (s : Setting) (before : History) (h k : ℕ) (q : Sequence) (entry : Entry) → sequence_on s h before ≡ Some q
    → slice_get (entries before) k ≡ Some entry → length q.reached ≤ k → entry.hart.0 ≡ h → ⊥
has_all s [] h k q entry on at behind own = cc
has_all s (e ∷ before) h k q entry on at behind own =
    none_behind s e before h q k entry (is_from s e before h q on) (newest_or e before k entry at) behind own
    (λ was earlier. has_all s before h k q entry was earlier behind own)
