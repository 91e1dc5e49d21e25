-- Each entry of a log is in exactly one act of its hart, and the acts come in the order of their first entries.
use Rattle.std.proofs.Common.{◌≡◌, ◌≤◌, ◌<◌, ◌⊎◌, inl, inr, ℕ, ◌+◌, List, [], ◌∷◌, All, get_or, length, map, slice_get, refl, sym, ap, ◌∙◌, subst, arith, true, Some}
use Rattle.std.proofs.lemmas.Bool.{cases_lt, eqb-true}
use Rattle.std.proofs.lemmas.Option.{slice_get-get_or, slice_get_within}
use Rattle.std.specs.List.Sorted.{IsStrictlyIncreasing}
use Rattle.mach_types.specs.declared.events.Entry.{Entry}
use Rattle.mach_types.specs.declared.events.Hart.{Hart}
use Rattle.block_model.specs.Acts.{Sequence, is_inside_at, is_taken_in, sequence_on, with_event}
use Rattle.block_model.specs.Deciding.{history}
use Rattle.block_model.specs.History.{Event, History, is_of_hart}
use Rattle.block_model.specs.Setting.{Setting}
use Rattle.block_model.proofs.Laws.{length-history}
use Rattle.block_view.specs.Acts.{acts_of}
use Rattle.block_view.specs.Entries.{HasEntry, IsWithin}
use Rattle.block_view.specs.Standing.{Standing, after, at_the_end, listed, standings}
use Rattle.block_view.specs.Standing.Standing.{Over, Going, Hanging}
use Rattle.block_view.specs.declared.forms.Act.{Act}
use Rattle.block_view.proofs.Extents.{AsFar, Earlier, Grows, HasNewest, InLonger, InNew, IsAlike, IsNew, IsNewestOr, Longer, Newest, grows, has_alike, has_all, has_newest, is_alike_back, is_new, newest_or, of_hart, within}
use Rattle.block_view.proofs.Growing.{at-the-end}
use Rattle.block_view.proofs.Indices.{changed, in_changed}
use Rattle.block_view.proofs.Logs.{entries, entries_of_history}
use Rattle.block_view.proofs.Places.{Began, Stood, begins_last, came, going_is_on, on_is_going, one_going, stands, takes_in}
use Rattle.block_view.proofs.Sequences.{hart_is, own_hart}

-- EACH ENTRY IS IN AN ACT

-- one of the acts that stand at a place has an entry
pub record IsCovered (s : Setting) (before : History) (k : ℕ) (entry : Entry) : Type 0 where
  pub place : ℕ
  pub act : Standing
  pub at : slice_get (standings s before) place ≡ Some act
  pub has : HasEntry (listed act) (k + 1) entry

-- what an act has it has still after one event more
still_has : (s : Setting) (e : Event) (before : History) (x y : Standing) (k : ℕ) (entry : Entry) → Grows s e before x y → k < length before
    → HasEntry (listed x) (k + 1) entry → HasEntry (listed y) (k + 1) entry
still_has s e before x y k entry (AsFar alike) lt has = has_alike (listed y) (listed x) (k + 1) entry alike has
still_has s e before x y k entry (Longer r is own inside taken now) lt has =
    let earlier = subst (λ (z : Standing). HasEntry (listed z) (k + 1) entry) is has in
    subst (λ (z : Standing). HasEntry (listed z) (k + 1) entry) (sym now) (record { hart = earlier.hart; from = earlier.from; to = omega arith })

module _ (s : Setting) (e : Event) (before : History) where
  -- the newest entry is in the act that begins with it, or in that of the sequence that takes it in
  newest_covered : HasNewest s e before → IsCovered s (e ∷ before) (length before) e.entry
  newest_covered (InNew x begins) =
      let new = is_new s e before x begins in
      let first = new.first in
      let last = new.last in
      record {
        place = length (standings s before);
        act = x;
        at = begins_last s e before x begins;
        has = record { hart = new.hart; from = omega arith; to = omega arith };
      }
  newest_covered (InLonger r inside taken was) =
      let among = on_is_going s before e.entry.hart.0 r was in
      let hart = hart_is s before e.entry.hart.0 r was in
      let own = ap (λ h. is_of_hart h e) hart ∙ own_hart e in
      let within_it = within s before among.place (Going r) among.at in
      let order = within_it.order in
      let end = within_it.end in
      record {
        place = among.place;
        act = Going (with_event e before r);
        at = stands s e before among.place (Going r) among.at
            ∙ ap Some (takes_in s e before r own (ap (λ h. is_inside_at s h before) hart ∙ inside) taken);
        has = record { hart = of_hart e.entry.hart r.hart hart; from = omega arith; to = omega arith };
      }

  -- any entry, where each of those before the newest is in an act
  more_covered : (k : ℕ) (entry : Entry) → IsNewestOr e before k entry → (slice_get (entries before) k ≡ Some entry → IsCovered s before k entry)
      → IsCovered s (e ∷ before) k entry
  more_covered k entry (Newest place same) rest =
      subst (λ (x : Entry). IsCovered s (e ∷ before) k x) same
      (subst (λ n. IsCovered s (e ∷ before) n e.entry) (sym place) (newest_covered (has_newest s e before)))
  more_covered k entry (Earlier at lt) rest =
      let was = rest at in
      record {
        place = was.place;
        act = after s e before was.act;
        at = stands s e before was.place was.act was.at;
        has = still_has s e before was.act (after s e before was.act) k entry (grows s e before was.act) lt was.has;
      }

-- so each entry is in an act
covered : (s : Setting) (before : History) (k : ℕ) (entry : Entry) → slice_get (entries before) k ≡ Some entry → IsCovered s before k entry
covered s [] k entry at = absurd cc
covered s (e ∷ before) k entry at = more_covered s e before k entry (newest_or e before k entry at) (λ earlier. covered s before k entry earlier)

-- AND IN NO OTHER

-- an act that has an earlier entry after an event had it before
module _ (s : Setting) (e : Event) (before : History) (i k : ℕ) (entry : Entry) where
  had_by : (r : Sequence) → slice_get (standings s before) i ≡ Some (Going r) → slice_get (entries before) k ≡ Some entry
      → HasEntry (listed (Going (with_event e before r))) (k + 1) entry → (k < length r.reached) ⊎ (length r.reached ≤ k)
      → HasEntry (listed (Going r)) (k + 1) entry
  had_by r at there has (inl lt) = record { hart = has.hart; from = has.from; to = omega arith }
  had_by r at there has (inr behind) =
      absurd (has_all s before r.hart k r entry (going_is_on s before i r at) there behind (sym (ap (λ (h : Hart). h.0) has.hart)))

  had : (x y : Standing) → Grows s e before x y → slice_get (standings s before) i ≡ Some x → slice_get (entries before) k ≡ Some entry
      → HasEntry (listed y) (k + 1) entry → HasEntry (listed x) (k + 1) entry
  had x y (AsFar alike) at there has = has_alike (listed x) (listed y) (k + 1) entry (is_alike_back alike) has
  had x y (Longer r is own inside taken now) at there has =
      subst (λ (z : Standing). HasEntry (listed z) (k + 1) entry) (sym is)
      (had_by r (at ∙ ap Some is) there (subst (λ (z : Standing). HasEntry (listed z) (k + 1) entry) now has) (cases_lt k (length r.reached)))

-- one that has the newest entry, and stood before it, is that of the sequence that takes it in
record TookIt (s : Setting) (e : Event) (before : History) (x : Standing) : Type 0 where
  sequence : Sequence
  is : x ≡ Going sequence
  hart : sequence.hart ≡ e.entry.hart.0
  inside : is_inside_at s e.entry.hart.0 before ≡ true
  taken : is_taken_in e.entry.kind e.done.interrupted ≡ true

took_it : (s : Setting) (e : Event) (before : History) (i : ℕ) (entry : Entry) (x y : Standing) → Grows s e before x y
    → slice_get (standings s before) i ≡ Some x → HasEntry (listed y) (length before + 1) entry → TookIt s e before x
took_it s e before i entry x y (AsFar alike) at has =
    let end = (within s before i x at).end in
    let to = has.to in
    let last = alike.last in
    absurd (omega arith)
took_it s e before i entry x y (Longer r is own inside taken now) at has =
    let hart = eqb-true e.entry.hart.0 r.hart own in
    record { sequence = r; is = is; hart = sym hart; inside = ap (λ h. is_inside_at s h before) hart ∙ inside; taken = taken }

-- such a sequence leaves no room for an act that begins with the entry
not_both : (s : Setting) (e : Event) (before : History) (i : ℕ) (x y : Standing) → slice_get (standings s before) i ≡ Some x → TookIt s e before x
    → IsNew s e before y → ⊥
not_both s e before i x y at took new =
    new.alone took.sequence
    (ap (λ h. sequence_on s h before) (sym took.hart) ∙ going_is_on s before i took.sequence (at ∙ ap Some took.is))
    took.inside took.taken

-- one that begins with an event has no earlier entry
not_earlier : (s : Setting) (e : Event) (before : History) (k : ℕ) (entry : Entry) (x : Standing) → IsNew s e before x → k < length before
    → HasEntry (listed x) (k + 1) entry → ⊥
not_earlier s e before k entry x new lt has =
    let from = has.from in
    let first = new.first in
    omega arith

module _ (s : Setting) (e : Event) (before : History) (i j : ℕ) (x y : Standing) (here : slice_get (standings s (e ∷ before)) i ≡ Some x)
    (there : slice_get (standings s (e ∷ before)) j ≡ Some y) where
  -- only one act has the newest entry
  once_newest : (entry : Entry) → HasEntry (listed x) (length before + 1) entry → HasEntry (listed y) (length before + 1) entry → i ≡ j
  once_newest entry has holds = elim (came s e before i x here) [
    | Stood w at is ↦
        let took = took_it s e before i entry w x (subst (Grows s e before w) is (grows s e before w)) at has in
        elim (came s e before j y there) [
          | Stood z beside becomes ↦
              let other = took_it s e before j entry z y (subst (Grows s e before z) becomes (grows s e before z)) beside holds in
              one_going s before i j took.sequence other.sequence (at ∙ ap Some took.is) (beside ∙ ap Some other.is) (took.hart ∙ sym other.hart)
          | Began place begins ↦ absurd (not_both s e before i w y at took (is_new s e before y begins))
        ]
    | Began place begins ↦ elim (came s e before j y there) [
      | Stood z beside becomes ↦
          let other = took_it s e before j entry z y (subst (Grows s e before z) becomes (grows s e before z)) beside holds in
          absurd (not_both s e before j z x beside other (is_new s e before x begins))
      | Began last _ ↦ place ∙ sym last
    ]
  ]

  -- and only one has an earlier one, where that held before
  once_earlier : (k : ℕ) (entry : Entry) → slice_get (entries before) k ≡ Some entry → k < length before → HasEntry (listed x) (k + 1) entry
      → HasEntry (listed y) (k + 1) entry
      → ((w z : Standing) → slice_get (standings s before) i ≡ Some w → slice_get (standings s before) j ≡ Some z → HasEntry (listed w) (k + 1) entry
      → HasEntry (listed z) (k + 1) entry → i ≡ j)
      → i ≡ j
  once_earlier k entry earlier lt has holds rest = elim (came s e before i x here) [
    | Stood w at is ↦ elim (came s e before j y there) [
      | Stood z beside becomes ↦
          rest w z at beside
          (had s e before i k entry w x (subst (Grows s e before w) is (grows s e before w)) at earlier has)
          (had s e before j k entry z y (subst (Grows s e before z) becomes (grows s e before z)) beside earlier holds)
      | Began place begins ↦ absurd (not_earlier s e before k entry y (is_new s e before y begins) lt holds)
    ]
    | Began place begins ↦ absurd (not_earlier s e before k entry x (is_new s e before x begins) lt has)
  ]

  once_by : (k : ℕ) (entry : Entry) → IsNewestOr e before k entry → HasEntry (listed x) (k + 1) entry → HasEntry (listed y) (k + 1) entry
      → ((w z : Standing) → slice_get (entries before) k ≡ Some entry → slice_get (standings s before) i ≡ Some w
      → slice_get (standings s before) j ≡ Some z
      → HasEntry (listed w) (k + 1) entry → HasEntry (listed z) (k + 1) entry → i ≡ j)
      → i ≡ j
  once_by k entry (Newest place same) has holds rest =
      once_newest entry (subst (λ n. HasEntry (listed x) (n + 1) entry) place has) (subst (λ n. HasEntry (listed y) (n + 1) entry) place holds)
  once_by k entry (Earlier earlier lt) has holds rest = once_earlier k entry earlier lt has holds (λ w z at beside. rest w z earlier at beside)

-- so each entry is in at most one act
once : (s : Setting) (before : History) (k i j : ℕ) (entry : Entry) (x y : Standing) → slice_get (entries before) k ≡ Some entry
    → slice_get (standings s before) i ≡ Some x → HasEntry (listed x) (k + 1) entry
    → slice_get (standings s before) j ≡ Some y → HasEntry (listed y) (k + 1) entry → i ≡ j
once s [] k i j entry x y at here has there holds = absurd cc
once s (e ∷ before) k i j entry x y at here has there holds =
    once_by s e before i j x y here there k entry (newest_or e before k entry at) has holds
    (λ w z earlier was beside one other. once s before k i j entry w z earlier was one beside other)

-- IN ORDER

-- an act begins where it began before
first_stays : (s : Setting) (e : Event) (before : History) (x y : Standing) → Grows s e before x y → (listed y).first ≡ (listed x).first
first_stays s e before x y (AsFar alike) = alike.first
first_stays s e before x y (Longer r is own inside taken now) =
    ap (λ (z : Standing). (listed z).first) now ∙ sym (ap (λ (z : Standing). (listed z).first) is)

-- of two acts the one that stands first begins first
in_order : (s : Setting) (before : History) (i j : ℕ) (x y : Standing) → i < j → slice_get (standings s before) i ≡ Some x
    → slice_get (standings s before) j ≡ Some y → (listed x).first < (listed y).first
in_order s [] i j x y lt here there = absurd cc
in_order s (e ∷ before) i j x y lt here there = elim (came s e before i x here) [
  | Stood w at is ↦
      let same = first_stays s e before w x (subst (Grows s e before w) is (grows s e before w)) in
      elim (came s e before j y there) [
        | Stood z beside becomes ↦
            let other = first_stays s e before z y (subst (Grows s e before z) becomes (grows s e before z)) in
            let rest = in_order s before i j w z lt at beside in
            omega arith
        | Began place begins ↦
            let new = (is_new s e before y begins).first in
            let order = (within s before i w at).order in
            let end = (within s before i w at).end in
            omega arith
      ]
  | Began place begins ↦ elim (came s e before j y there) [
    | Stood z beside becomes ↦ let below = slice_get_within (standings s before) j z beside in absurd (omega arith)
    | Began last _ ↦ absurd (omega arith)
  ]
]

-- AT THE END OF A LOG

-- what becomes of an act at the end has the entries that it had
settles : (s : Setting) (all : History) (x : Standing) → IsAlike (at_the_end s all [] x) (listed x)
settles s all (Over act) = record { hart = refl; first = refl; last = refl }
settles s all (Going q) = record { hart = refl; first = refl; last = refl }
settles s all (Hanging q) = record { hart = refl; first = refl; last = refl }

-- the acts of a log are what becomes of those that stand at its end
acts_are : (s : Setting) (log : List Entry) → acts_of s log ≡ map (at_the_end s (history s log) []) (standings s (history s log))
unfolding acts_of
acts_are s log = sym (at-the-end s (history s log))

-- each entry is in an act
pub record IsInAct (s : Setting) (log : List Entry) (k : ℕ) (entry : Entry) : Type 0 where
  pub place : ℕ
  pub act : Act
  pub at : slice_get (acts_of s log) place ≡ Some act
  pub has : HasEntry act (k + 1) entry

-- each act comes from one that stands
record ComesOf (s : Setting) (log : List Entry) (i : ℕ) (act : Act) : Type 0 where
  standing : Standing
  at : slice_get (standings s (history s log)) i ≡ Some standing
  alike : IsAlike act (listed standing)

module _ (s : Setting) (log : List Entry) where
  -- the history of the log
  abbrev all : History
  all = history s log

  comes_of : (i : ℕ) (act : Act) → slice_get (acts_of s log) i ≡ Some act → ComesOf s log i act
  comes_of i act at =
      let from = changed (at_the_end s all []) (standings s all) i act (ap (λ acts. slice_get acts i) (sym (acts_are s log)) ∙ at) in
      record {
        standing = from.from;
        at = from.at;
        alike = subst (λ (a : Act). IsAlike a (listed from.from)) from.is (settles s all from.from);
      }

  -- an entry of the log is one of its history
  of_log : (k : ℕ) (entry : Entry) → slice_get log k ≡ Some entry → slice_get (entries all) k ≡ Some entry
  of_log k entry at = ap (λ list. slice_get list k) (entries_of_history s log) ∙ at

  pub is_in_act : (k : ℕ) (entry : Entry) → slice_get log k ≡ Some entry → IsInAct s log k entry
  is_in_act k entry at =
      let found = covered s all k entry (of_log k entry at) in
      record {
        place = found.place;
        act = at_the_end s all [] found.act;
        at = ap (λ acts. slice_get acts found.place) (acts_are s log)
            ∙ in_changed (at_the_end s all []) (standings s all) found.place found.act found.at;
        has = has_alike (at_the_end s all [] found.act) (listed found.act) (k + 1) entry (settles s all found.act) found.has;
      }

  pub in_one_act : (k i j : ℕ) (entry : Entry) (a b : Act) → slice_get log k ≡ Some entry → slice_get (acts_of s log) i ≡ Some a
      → HasEntry a (k + 1) entry
      → slice_get (acts_of s log) j ≡ Some b → HasEntry b (k + 1) entry → i ≡ j
  in_one_act k i j entry a b at here has there holds =
      let one = comes_of i a here in
      let other = comes_of j b there in
      once s all k i j entry one.standing other.standing (of_log k entry at)
      one.at (has_alike (listed one.standing) a (k + 1) entry (is_alike_back one.alike) has)
      other.at (has_alike (listed other.standing) b (k + 1) entry (is_alike_back other.alike) holds)

  -- and each act lies within the log
  act_within : (i : ℕ) (act : Act) → slice_get (acts_of s log) i ≡ Some act → IsWithin (length log) act
  act_within i act at =
      let one = comes_of i act at in
      let lies = within s all i one.standing one.at in
      let count = length-history s log in
      let first = one.alike.first in
      let last = one.alike.last in
      let start = lies.start in
      let order = lies.order in
      let end = lies.end in
      record { start = omega arith; order = omega arith; end = omega arith }

  pub all_within : All (IsWithin (length log)) (acts_of s log)
  all_within = λ k d lt. act_within k (get_or (acts_of s log) k d) (slice_get-get_or (acts_of s log) k d lt)

  -- in the order of their first entries
  firsts_rise : (i j : ℕ) (a b : Act) → i < j → slice_get (acts_of s log) i ≡ Some a → slice_get (acts_of s log) j ≡ Some b → a.first < b.first
  firsts_rise i j a b lt here there =
      let one = comes_of i a here in
      let other = comes_of j b there in
      let rise = in_order s all i j one.standing other.standing lt one.at other.at in
      let first = one.alike.first in
      let later = other.alike.first in
      omega arith

  abbrev firsts : List ℕ
  firsts = map (λ (act : Act). act.first) (acts_of s log)

  pub rising : IsStrictlyIncreasing firsts
  rising = λ k lt.
      let one = changed (λ (act : Act). act.first) (acts_of s log) k (get_or firsts k 0) (slice_get-get_or firsts k 0 (omega arith)) in
      let next = changed (λ (act : Act). act.first) (acts_of s log) (k + 1) (get_or firsts (k + 1) 0) (slice_get-get_or firsts (k + 1) 0 lt) in
      let rise = firsts_rise k (k + 1) one.from next.from (omega arith) one.at next.at in
      let first = one.is in
      let later = next.is in
      omega arith
