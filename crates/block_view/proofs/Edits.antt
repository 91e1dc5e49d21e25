-- Lists of acts that are edited at a place, and what is then kept of them.
use Rattle.std.proofs.Common.{◌≡◌, ◌≢◌, ℕ, zero, suc, ◌+◌, ◌<◌, inl, inr, List, [], ◌∷◌, ◌++◌, length, map, set, slice_get, get_or, get_or-set_same, get_or-set_other, find, filter, refl, sym, ap, ◌∙◌, arith, eqb, Bool, true, false, cond, not, Option, Some, None}
use Rattle.std.specs.Option.{option_or}
use Rattle.std.proofs.lemmas.Bool.{cases_eq, eqb-true, ne_eqb}
use Rattle.std.proofs.lemmas.List.Folds.{find-append}
use Rattle.mach_types.proofs.Laws.{eqb_same}
use Rattle.mach_types.specs.declared.events.Tid.{Tid}
use Rattle.block_model.specs.Acts.{Sequence as Known}
use Rattle.block_model.specs.Setting.{Setting}
use Rattle.block_view.specs.Ledgers.{changed_at, is_of}
use Rattle.block_view.specs.Standing.{Standing, listed}
use Rattle.block_view.specs.Standing.Standing.{Over, Going, Hanging}
use Rattle.block_view.specs.Tied.{HangsAt, StandsAt, going_at, hanging_at, tid_of}
use Rattle.block_view.specs.declared.forms.Act.{Act}
use Rattle.block_view.specs.declared.ledger.Going.{Going as KeptGoing}
use Rattle.block_view.specs.declared.ledger.Hanging.{Hanging as KeptHanging}
use Rattle.block_view.proofs.Indices.{InFirst, InSecond, comes_from, in_first}

-- something isn't nothing
some_none : {X : Type 0} {x : X} → Some x ≡ None → ⊥
some_none is = cc

-- A PLACE THAT IS WRITTEN

pub at_written : {X : Type 0} (xs : List X) (i : ℕ) (x y : X) → slice_get xs i ≡ Some x → slice_get (set xs i y) i ≡ Some y
at_written [] i x y at = absurd cc
at_written (z ∷ xs) zero x y at = refl
at_written (z ∷ xs) (suc i) x y at = at_written xs i x y at

pub at_others : {X : Type 0} (xs : List X) (i j : ℕ) (y : X) → j ≢ i → slice_get (set xs i y) j ≡ slice_get xs j
at_others [] i j y other = refl
at_others (z ∷ xs) zero zero y other = absurd (other refl)
at_others (z ∷ xs) zero (suc j) y other = refl
at_others (z ∷ xs) (suc i) zero y other = refl
at_others (z ∷ xs) (suc i) (suc j) y other = at_others xs i j y (λ same. other (ap suc same))

-- an element after a write: the new one, or one at another place
pub data IsWritten {X : Type 0} (xs : List X) (i : ℕ) (y : X) (j : ℕ) (x : X) : Type 0 where
  New : j ≡ i → y ≡ x → IsWritten xs i y j x
  Old : j ≢ i → slice_get xs j ≡ Some x → IsWritten xs i y j x

pub is_written : {X : Type 0} (xs : List X) (i : ℕ) (was y : X) (j : ℕ) (x : X) → slice_get xs i ≡ Some was → slice_get (set xs i y) j ≡ Some x
    → IsWritten xs i y j x
is_written xs i was y j x at is = elim (cases_eq j i) [
  | inl same ↦ let new : slice_get (set xs i y) j ≡ Some y = ap (slice_get (set xs i y)) same ∙ at_written xs i was y at in New same cc
  | inr other ↦ Old other (sym (at_others xs i j y other) ∙ is)
]

-- a list that a function changes nowhere, or at one place alone
pub map_nowhere : (f : Standing → Standing) (acts : List Standing) → ((j : ℕ) (y : Standing) → slice_get acts j ≡ Some y → f y ≡ y) → map f acts ≡ acts
map_nowhere f [] none = refl
map_nowhere f (z ∷ acts) none = ap (λ y. y ∷ map f acts) (none 0 z refl) ∙ ap (λ ys. z ∷ ys) (map_nowhere f acts (λ j y is. none (suc j) y is))

is_suc : {m n : ℕ} → suc m ≡ suc n → m ≡ n
is_suc same = omega arith

pub map_at_place : (f : Standing → Standing) (acts : List Standing) (i : ℕ) (x : Standing) → slice_get acts i ≡ Some x
    → ((j : ℕ) (y : Standing) → slice_get acts j ≡ Some y → j ≢ i → f y ≡ y) → map f acts ≡ set acts i (f x)
map_at_place f [] i x at others = refl
map_at_place f (z ∷ acts) zero x at others =
    let same : z ≡ x = cc in
    ap (λ y. y ∷ map f acts) (ap f same) ∙ ap (λ ys. f x ∷ ys) (map_nowhere f acts (λ j y is. others (suc j) y is (λ same. cc)))
map_at_place f (z ∷ acts) (suc i) x at others =
    ap (λ y. y ∷ map f acts) (others 0 z refl (λ same. cc))
    ∙ ap (λ ys. z ∷ ys) (map_at_place f acts i x at (λ j y is other. others (suc j) y is (λ same. other (is_suc same))))

-- THE LIST OF ACTS

pub listed_at_place : (change : Act → Act) (acts : List Standing) (i : ℕ) (x y : Standing) → slice_get acts i ≡ Some x
    → listed y ≡ change (listed x) → changed_at i change (map listed acts) ≡ map listed (set acts i y)
listed_at_place change [] i x y at is = refl
listed_at_place change (z ∷ acts) zero x y at is =
    let same : z ≡ x = cc in ap (λ w. w ∷ map listed acts) (ap (λ v. change (listed v)) same ∙ sym is)
listed_at_place change (z ∷ acts) (suc i) x y at is = ap (λ ws. listed z ∷ ws) (listed_at_place change acts i x y at is)

-- one that is listed as before
pub listed_as_before : (acts : List Standing) (i : ℕ) (x y : Standing) → slice_get acts i ≡ Some x → listed x ≡ listed y
    → map listed acts ≡ map listed (set acts i y)
listed_as_before [] i x y at is = refl
listed_as_before (z ∷ acts) zero x y at is =
    let same : z ≡ x = cc in ap (λ w. w ∷ map listed acts) (ap listed same ∙ is)
listed_as_before (z ∷ acts) (suc i) x y at is = ap (λ ws. listed z ∷ ws) (listed_as_before acts i x y at is)

-- WHAT GOES ON

-- each sequence that goes on is kept with its place, and none of a hart of which none is known
pub record AreGoing (s : Setting) (on : ℕ → Option Known) (acts : List Standing) (kept : List (Option KeptGoing)) : Type 0 where
  pub going : (i : ℕ) (q : Known) → StandsAt acts i (Going q) → get_or kept q.hart None ≡ Some (going_at s i q)
  pub rests : (h : ℕ) → on h ≡ None → get_or kept h None ≡ None

-- an act is over that begins
pub going_with_over : (s : Setting) (on on' : ℕ → Option Known) (acts : List Standing) (kept : List (Option KeptGoing)) (act : Act)
    → AreGoing s on acts kept → ((h : ℕ) → on' h ≡ None → on h ≡ None) → AreGoing s on' (acts ++ Over act ∷ []) kept
going_with_over s on on' acts kept act was none = record {
  going = λ i q at. elim (comes_from acts (Over act ∷ []) i (Going q) at) [
    | InFirst first ↦ was.going i q first
    | InSecond k place second ↦ absurd (not_over k q second)
  ];
  rests = λ h is. was.rests h (none h is);
}
  where
    not_over : (k : ℕ) (q : Known) → slice_get (Over act ∷ []) k ≡ Some (Going q) → ⊥
    not_over zero q at = cc
    not_over (suc k) q at = cc

-- a sequence begins on a hart on which none goes on
pub going_with_more : (s : Setting) (on on' : ℕ → Option Known) (acts : List Standing) (kept : List (Option KeptGoing)) (h : ℕ) (q : Known)
    → AreGoing s on acts kept → q.hart ≡ h → h < length kept → get_or kept h None ≡ None → on' h ≡ Some q → ((j : ℕ) → j ≢ h → on' j ≡ on j)
    → AreGoing s on' (acts ++ Going q ∷ []) (set kept h (Some (going_at s (length acts) q)))
going_with_more s on on' acts kept h q was own lt none now others = record {
  going = λ i r at. elim (comes_from acts (Going q ∷ []) i (Going r) at) [
    | InFirst first ↦
        get_or-set_other kept h r.hart (Some (going_at s (length acts) q)) None
        (λ same. absurd (some_none (sym (was.going i r first) ∙ ap (λ j. get_or kept j None) same ∙ none)))
        ∙ was.going i r first
    | InSecond k place second ↦ newest i k r place second
  ];
  rests = λ j is. elim (cases_eq j h) [
    | inl same ↦ absurd (some_none (sym now ∙ ap on' (sym same) ∙ is))
    | inr other ↦ get_or-set_other kept h j (Some (going_at s (length acts) q)) None other ∙ was.rests j (sym (others j other) ∙ is)
  ];
}
  where
    newest : (i k : ℕ) (r : Known) → i ≡ length acts + k → slice_get (Going q ∷ []) k ≡ Some (Going r)
        → get_or (set kept h (Some (going_at s (length acts) q))) r.hart None ≡ Some (going_at s i r)
    newest i zero r place second =
        let same : q ≡ r = cc in
        let at : i ≡ length acts = omega arith in
        ap (λ j. get_or (set kept h (Some (going_at s (length acts) q))) j None) (ap (λ (x : Known). x.hart) (sym same) ∙ own)
        ∙ get_or-set_same kept h (Some (going_at s (length acts) q)) None lt
        ∙ ap (λ (x : Known). Some (going_at s (length acts) x)) same
        ∙ ap (λ n. Some (going_at s n r)) (sym at)
    newest i (suc k) r place second = absurd cc

-- one that goes on changes
pub going_written : (s : Setting) (on on' : ℕ → Option Known) (acts : List Standing) (kept : List (Option KeptGoing)) (i : ℕ) (q : Known)
    (y : Standing) (o : Option KeptGoing) → AreGoing s on acts kept → StandsAt acts i (Going q)
    → ((r : Known) → y ≡ Going r → (r.hart ≡ q.hart) × (o ≡ Some (going_at s i r))) → (on' q.hart ≡ None → o ≡ None)
    → ((j : ℕ) → j ≢ q.hart → on' j ≡ on j) → q.hart < length kept → AreGoing s on' (set acts i y) (set kept q.hart o)
going_written s on on' acts kept i q y o was stood becomes ends others lt = record {
  going = λ j r at. elim (is_written acts i (Going q) y j (Going r) stood at) [
    | New same is ↦
        let new = becomes r is in
        ap (λ h. get_or (set kept q.hart o) h None) new.0 ∙ get_or-set_same kept q.hart o None lt ∙ new.1 ∙ ap (λ n. Some (going_at s n r)) (sym same)
    | Old other old ↦
        get_or-set_other kept q.hart r.hart o None (λ same. other (one_place j r same (was.going j r old) (was.going i q stood))) ∙ was.going j r old
  ];
  rests = λ j is. elim (cases_eq j q.hart) [
    | inl same ↦
        ap (λ h. get_or (set kept q.hart o) h None) same ∙ get_or-set_same kept q.hart o None lt ∙ ends (ap on' (sym same) ∙ is)
    | inr other ↦ get_or-set_other kept q.hart j o None other ∙ was.rests j (sym (others j other) ∙ is)
  ];
}
  where
    one_place : (j : ℕ) (r : Known) → r.hart ≡ q.hart → get_or kept r.hart None ≡ Some (going_at s j r) → get_or kept q.hart None ≡ Some (going_at s i q)
        → j ≡ i
    one_place j r same at there =
        let both : Some (going_at s j r) ≡ Some (going_at s i q) = sym at ∙ ap (λ h. get_or kept h None) same ∙ there in
        let gs : going_at s j r ≡ going_at s i q = cc in ap (λ (g : KeptGoing). g.place) gs

-- one that hangs is over
pub going_unwritten : (s : Setting) (on on' : ℕ → Option Known) (acts : List Standing) (kept : List (Option KeptGoing)) (i : ℕ) (q : Known) (act : Act)
    → AreGoing s on acts kept → StandsAt acts i (Hanging q) → ((h : ℕ) → on' h ≡ None → on h ≡ None) → AreGoing s on' (set acts i (Over act)) kept
going_unwritten s on on' acts kept i q act was stood none = record {
  going = λ j r at. elim (is_written acts i (Hanging q) (Over act) j (Going r) stood at) [
    | New same is ↦ absurd (not_over r is)
    | Old other old ↦ was.going j r old
  ];
  rests = λ h is. was.rests h (none h is);
}
  where
    not_over : (r : Known) → Over act ≡ Going r → ⊥
    not_over r is = cc

-- WHAT HANGS

-- each sequence that hangs is kept with its place, and of a thread only one that hangs
pub record AreHanging (acts : List Standing) (kept : List KeptHanging) : Type 0 where
  pub hanging : (i : ℕ) (q : Known) → StandsAt acts i (Hanging q) → find (is_of (tid_of q)) kept ≡ Some (hanging_at i q)
  pub hangs : (tid : Tid) (x : KeptHanging) → find (is_of tid) kept ≡ Some x → HangsAt acts tid x.place

-- an act begins that doesn't hang
pub hanging_with_more : (acts : List Standing) (kept : List KeptHanging) (y : Standing) → AreHanging acts kept → ((q : Known) → y ≡ Hanging q → ⊥)
    → AreHanging (acts ++ y ∷ []) kept
hanging_with_more acts kept y was never = record {
  hanging = λ i q at. elim (comes_from acts (y ∷ []) i (Hanging q) at) [
    | InFirst first ↦ was.hanging i q first
    | InSecond k place second ↦ absurd (not_new k q second)
  ];
  hangs = λ tid x is.
      let at = was.hangs tid x is in
      record { sequence = at.sequence; thread = at.thread; stands = in_first acts (y ∷ []) x.place (Hanging at.sequence) at.stands };
}
  where
    not_new : (k : ℕ) (q : Known) → slice_get (y ∷ []) k ≡ Some (Hanging q) → ⊥
    not_new zero q at = never q cc
    not_new (suc k) q at = cc

-- one that goes on changes, and doesn't hang
stands_elsewhere : (acts : List Standing) (i : ℕ) (x y : Standing) (tid : Tid) (place : ℕ) → StandsAt acts i x → ((q : Known) → q.thread ≡ tid.0 → x ≡ Hanging q → ⊥)
    → HangsAt acts tid place → HangsAt (set acts i y) tid place
stands_elsewhere acts i x y tid place stood never at = record {
  sequence = at.sequence;
  thread = at.thread;
  stands = at_others acts i place y (λ same. never at.sequence at.thread (same_there same)) ∙ at.stands;
}
  where
    same_there : place ≡ i → x ≡ Hanging at.sequence
    same_there same = let there : slice_get acts i ≡ Some (Hanging at.sequence) = ap (slice_get acts) (sym same) ∙ at.stands in cc

pub hanging_unwritten : (acts : List Standing) (kept : List KeptHanging) (i : ℕ) (q : Known) (y : Standing) → AreHanging acts kept
    → StandsAt acts i (Going q) → ((r : Known) → y ≡ Hanging r → ⊥) → AreHanging (set acts i y) kept
hanging_unwritten acts kept i q y was stood never = record {
  hanging = λ j r at. elim (is_written acts i (Going q) y j (Hanging r) stood at) [
    | New same is ↦ absurd (never r is)
    | Old other old ↦ was.hanging j r old
  ];
  hangs = λ tid x is. stands_elsewhere acts i (Going q) y tid x.place stood (λ r same is. cc) (was.hangs tid x is);
}

-- one that goes on hangs, where none of its thread hung
found_last : (kept : List KeptHanging) (x : KeptHanging) (tid : Tid) → find (is_of tid) kept ≡ None → x.tid.0 ≡ tid.0
    → find (is_of tid) (kept ++ x ∷ []) ≡ Some x
found_last kept x tid none same =
    find-append (is_of tid) kept (x ∷ [])
    ∙ ap (λ o. option_or o (find (is_of tid) (x ∷ []))) none
    ∙ ap (λ n. cond (eqb n tid.0) (Some x) None) same
    ∙ ap (λ b. cond b (Some x) None) (eqb_same tid.0)

found_before : (kept : List KeptHanging) (x : KeptHanging) (tid : Tid) → x.tid.0 ≢ tid.0 → find (is_of tid) (kept ++ x ∷ []) ≡ find (is_of tid) kept
found_before kept x tid other =
    find-append (is_of tid) kept (x ∷ [])
    ∙ ap (λ b. option_or (find (is_of tid) kept) (cond b (Some x) None)) (ne_eqb x.tid.0 tid.0 other)
    ∙ or_none (find (is_of tid) kept)
  where
    or_none : (o : Option KeptHanging) → option_or o None ≡ o
    or_none None = refl
    or_none (Some y) = refl

pub hanging_written : (acts : List Standing) (kept : List KeptHanging) (i : ℕ) (q : Known) → AreHanging acts kept → StandsAt acts i (Going q)
    → find (is_of (tid_of q)) kept ≡ None → AreHanging (set acts i (Hanging q)) (kept ++ hanging_at i q ∷ [])
hanging_written acts kept i q was stood none = record {
  hanging = λ j r at. elim (is_written acts i (Going q) (Hanging q) j (Hanging r) stood at) [
    | New same is ↦ newest j r same is
    | Old other old ↦
        found_before kept (hanging_at i q) (tid_of r) (λ same. some_none (sym (was.hanging j r old) ∙ ap (λ t. find (is_of (record { 0 = t })) kept) (sym same) ∙ none))
        ∙ was.hanging j r old
  ];
  hangs = λ tid x is. elim (cases_eq q.thread tid.0) [
    | inl same ↦
        let last : find (is_of tid) (kept ++ hanging_at i q ∷ []) ≡ Some (hanging_at i q) =
        found_last kept (hanging_at i q) tid (ap (λ t. find (is_of (record { 0 = t })) kept) (sym same) ∙ none) same in
        let x_is : hanging_at i q ≡ x = cc in
        record { sequence = q; thread = same; stands = ap (slice_get (set acts i (Hanging q))) (ap (λ (y : KeptHanging). y.place) (sym x_is)) ∙ at_written acts i (Going q) (Hanging q) stood }
    | inr other ↦
        stands_elsewhere acts i (Going q) (Hanging q) tid x.place stood (λ r same is. cc)
        (was.hangs tid x (sym (found_before kept (hanging_at i q) tid other) ∙ is))
  ];
}
  where
    newest : (j : ℕ) (r : Known) → j ≡ i → Hanging q ≡ Hanging r → find (is_of (tid_of r)) (kept ++ hanging_at i q ∷ []) ≡ Some (hanging_at j r)
    newest j r same is =
        let known : q ≡ r = cc in
        ap (λ (x : Known). find (is_of (tid_of x)) (kept ++ hanging_at i q ∷ [])) (sym known)
        ∙ found_last kept (hanging_at i q) (tid_of q) none refl
        ∙ ap (λ (x : Known). Some (hanging_at i x)) known
        ∙ ap (λ n. Some (hanging_at n r)) (sym same)

-- one that hangs is over
module _ (tid : Tid) (x : KeptHanging) (kept : List KeptHanging) where
  abbrev left : List KeptHanging
  left = filter (λ y. not (is_of tid y)) kept

  none_by : (b : Bool) → is_of tid x ≡ b → find (is_of tid) left ≡ None → find (is_of tid) (cond (not b) (x ∷ left) left) ≡ None
  none_by true is rest = rest
  none_by false is rest = ap (λ b. cond b (Some x) (find (is_of tid) left)) is ∙ rest

  others_by : (other : Tid) (b : Bool) → other.0 ≢ tid.0 → is_of tid x ≡ b → find (is_of other) left ≡ find (is_of other) kept
      → find (is_of other) (cond (not b) (x ∷ left) left) ≡ cond (is_of other x) (Some x) (find (is_of other) kept)
  others_by other true apart is rest =
      rest ∙ sym (ap (λ b. cond b (Some x) (find (is_of other) kept)) (ne_eqb x.tid.0 other.0 (λ same. apart (sym same ∙ eqb-true x.tid.0 tid.0 is))))
  others_by other false apart is rest = ap (λ o. cond (is_of other x) (Some x) o) rest

none_left : (tid : Tid) (kept : List KeptHanging) → find (is_of tid) (filter (λ x. not (is_of tid x)) kept) ≡ None
none_left tid [] = refl
none_left tid (x ∷ kept) = none_by tid x kept (is_of tid x) refl (none_left tid kept)

others_left : (tid other : Tid) (kept : List KeptHanging) → other.0 ≢ tid.0
    → find (is_of other) (filter (λ x. not (is_of tid x)) kept) ≡ find (is_of other) kept
others_left tid other [] apart = refl
others_left tid other (x ∷ kept) apart = others_by tid x kept other (is_of tid x) apart refl (others_left tid other kept apart)

pub hanging_ended : (acts : List Standing) (kept : List KeptHanging) (i : ℕ) (q : Known) (act : Act) → AreHanging acts kept
    → StandsAt acts i (Hanging q) → AreHanging (set acts i (Over act)) (filter (λ x. not (is_of (tid_of q) x)) kept)
hanging_ended acts kept i q act was stood = record {
  hanging = λ j r at. elim (is_written acts i (Hanging q) (Over act) j (Hanging r) stood at) [
    | New same is ↦ absurd (not_over r is)
    | Old other old ↦
        others_left (tid_of q) (tid_of r) kept (λ same. other (one_place j r same (was.hanging j r old) (was.hanging i q stood))) ∙ was.hanging j r old
  ];
  hangs = λ tid x is. elim (cases_eq tid.0 q.thread) [
    | inl same ↦ absurd (some_none (sym is ∙ ap (λ t. find (is_of (record { 0 = t })) (filter (λ y. not (is_of (tid_of q) y)) kept)) same ∙ none_left (tid_of q) kept))
    | inr other ↦
        stands_elsewhere acts i (Hanging q) (Over act) tid x.place stood
        (λ r thread is. other (sym thread ∙ ap (λ (y : Known). y.thread) (sym (one_hangs r is))))
        (was.hangs tid x (sym (others_left (tid_of q) tid kept other) ∙ is))
  ];
}
  where
    not_over : (r : Known) → Over act ≡ Hanging r → ⊥
    not_over r is = cc

    one_hangs : (r : Known) → Hanging q ≡ Hanging r → q ≡ r
    one_hangs r is = cc

    one_place : (j : ℕ) (r : Known) → r.thread ≡ q.thread → find (is_of (tid_of r)) kept ≡ Some (hanging_at j r)
        → find (is_of (tid_of q)) kept ≡ Some (hanging_at i q) → j ≡ i
    one_place j r same at there =
        let both : Some (hanging_at j r) ≡ Some (hanging_at i q) = sym at ∙ ap (λ t. find (is_of (record { 0 = t })) kept) same ∙ there in
        let xs : hanging_at j r ≡ hanging_at i q = cc in ap (λ (x : KeptHanging). x.place) xs
