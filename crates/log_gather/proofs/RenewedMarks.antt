-- What is reserved before plain events is found anew, mark by mark.
use Rattle.std.proofs.Common.{◌≡◌, ℕ, zero, suc, ◌+◌, ◌<◌, ◌≤◌, List, [], ◌∷◌, ◌++◌, length, get_or, set, take, drop, map, refl, sym, ap, subst, ◌∙◌, arith, append-nil, append_assoc, Bool, true, ltb, ◌&&◌, eqb, Option, Some, None, is_none, replicate, unwrap_or}
use Rattle.std.specs.List.{list_all, slice_get}
use Rattle.std.proofs.lemmas.Bool.{and_from, and_parts, false≢true, lt-ltb, ltb-true}
use Rattle.std.proofs.lemmas.List.{drop-set-lt, drop_all, drop_more, map-append, set-get_or, take_all, take_more_set}
use Rattle.log_gather.specs.declared.accesses.Range.{Range}
use Rattle.log_gather.specs.declared.accesses.TheConstants.{NO_ACCESS}
use Rattle.log_gather.specs.declared.marks.Details.{Details}
use Rattle.log_gather.specs.declared.marks.Mark.{Mark}
use Rattle.log_gather.specs.declared.steps.Step.{Step}
use Rattle.log_gather.specs.Accesses.{bytes_in}
use Rattle.log_gather.specs.Located.{lost_to_bytes}
use Rattle.log_gather.specs.Marks.{AreOf, IsGrown, IsNumbered, IsRenewed, are_known, is_known, leaves_reserved, other_marks, own_marks, reserved_by, step_of, steps_of}
use Rattle.log_gather.specs.Turns.{is_of_eight, moved_steps, renewed, reserved_after}
use Rattle.log_gather.proofs.MarkedEvents.{grown_same, grown_still, known_front, known_parted, known_rest, known_still, step_same, steps_parted, steps_same}
use Rattle.log_gather.proofs.TurnTaken.{all_parted}

-- ONE EVENT

all_kept : (reserved : List (Option ℕ)) → map (lost_to_bytes []) reserved ≡ reserved
all_kept [] = refl
all_kept (r ∷ rs) = ap (λ l. r ∷ l) (all_kept rs)

leaves_same : (x : Step) (reserved : List (Option ℕ)) → leaves_reserved x.access ≡ true → reserved_after x reserved ≡ reserved
leaves_same x reserved leaves =
    let p = and_parts (is_none x.access.entered) (is_none x.access.reserves) leaves in
    go x.access.entered x.access.reserves p.0 p.1
  where
    go : (e : Option Range) (r : Option (Option ℕ)) → is_none e ≡ true → is_none r ≡ true
        → set (map (lost_to_bytes (bytes_in e)) reserved) x.entry.hart.0 (unwrap_or r (get_or reserved x.entry.hart.0 None)) ≡ reserved
    go None None entered reserves = ap (λ l. set l x.entry.hart.0 (get_or reserved x.entry.hart.0 None)) (all_kept reserved) ∙ set-get_or reserved x.entry.hart.0 None
    go None (Some r) entered reserves = absurd (false≢true reserves)
    go (Some e) r entered reserves = absurd (false≢true entered)

-- it leaves the reservations as they are
pub renewed_same : (d : Details) (x y : Mark) (n : ℕ) → n < length d.reserved.items → y ≡ record x { reserved = n }
    → leaves_reserved (get_or d.accesses.items x.access NO_ACCESS) ≡ true → IsRenewed d x n n d y
renewed_same d x y n known is leaves = record {
  grown = grown_same d;
  known = known;
  mark = is;
  reserved = sym (leaves_same (step_of d x) (reserved_by d n) leaves);
}

-- or others come to be reserved
pub renewed_new : (c d : Details) (x y : Mark) (n after : ℕ) (reserved : List (Option ℕ)) → IsGrown c d → IsNumbered c.reserved.items reserved after d.reserved.items
    → y ≡ record x { reserved = n } → reserved ≡ reserved_after (step_of c x) (reserved_by c n) → IsRenewed c x n after d y
renewed_new c d x y n after reserved grown numbered is made = record {
  grown = grown;
  known = numbered.known;
  mark = is;
  reserved = numbered.here (replicate 8 None) ∙ made;
}

-- ALL OF A SPAN

all_set : {A : Type 0} (p : A → Bool) (xs : List A) (i : ℕ) (y : A) → list_all p xs ≡ true → p y ≡ true → list_all p (set xs i y) ≡ true
all_set p [] i y all here = refl
all_set p (x ∷ xs) zero y all here = and_from (p y) (list_all p xs) here (and_parts (p x) (list_all p xs) all).1
all_set p (x ∷ xs) (suc i) y all here =
    let q = and_parts (p x) (list_all p xs) all in
    and_from (p x) (list_all p (set xs i y)) q.0 (all_set p xs i y q.1 here)

-- whether its hart is one of eight
abbrev pub has_hart : Mark → Bool
has_hart x = ltb x.hart.0 8

pub harts_of : (d : Details) (xs : List Mark) → list_all is_of_eight (steps_of d xs) ≡ true → list_all has_hart xs ≡ true
harts_of d [] all = refl
harts_of d (x ∷ xs) all =
    let q = and_parts (is_of_eight (step_of d x)) (list_all is_of_eight (steps_of d xs)) all in
    and_from (has_hart x) (list_all has_hart xs) (and_parts (has_hart x) (eqb (length (reserved_by d x.reserved)) 8) q.0).0 (harts_of d xs q.1)

-- so many marks were renewed, and what has this number is reserved before the next
pub record AreRenewed (c : Details) (old : List Mark) (first : ℕ) (d : Details) (new : List Mark) (i n : ℕ) : Type 0 where
  pub grown : IsGrown c d
  pub known : are_known d new ≡ true
  pub number : n < length d.reserved.items
  pub harts : list_all has_hart (drop i new) ≡ true
  pub stays : steps_of d (take i new) ++ renewed (reserved_by d n) (steps_of d (drop i new)) ≡ renewed (reserved_by c first) (steps_of c old)

pub none_renewed : (c : Details) (old : List Mark) (first : ℕ) → list_all is_of_eight (steps_of c old) ≡ true → are_known c old ≡ true → first < length c.reserved.items
    → AreRenewed c old first c old 0 first
none_renewed c old first eight known number = record { grown = grown_same c; known = known; number = number; harts = harts_of c old eight; stays = refl }

module _ (c d : Details) (old new : List Mark) (first i n : ℕ) (was : AreRenewed c old first d new i n) (m : Mark) (within : i < length new) where
  abbrev x : Mark
  x = get_or new i m

  rest_is : drop i new ≡ x ∷ drop (i + 1) new
  rest_is = drop_more new i m within

  pub next_hart : x.hart.0 < 8
  next_hart = ltb-true x.hart.0 8 (and_parts (has_hart x) (list_all has_hart (drop (i + 1) new)) (ap (list_all has_hart) (sym rest_is) ∙ was.harts)).0

  x_known : is_known d x ≡ true
  x_known = (and_parts (is_known d x) (are_known d (drop (i + 1) new)) (ap (are_known d) (sym rest_is) ∙ known_rest d new i was.known)).0

  pub renewed_more : (e : Details) (after : ℕ) (y : Mark) → IsRenewed d x n after e y → AreRenewed c old first e (set new i y) (i + 1) after
  renewed_more e after y one =
      let zs = drop (i + 1) new in
      let r = reserved_by d n in
      let p = and_parts (ltb x.access (length d.accesses.items)) (ltb x.looked_at (length d.looked_at.items) && ltb x.reserved (length d.reserved.items)) x_known in
      let q = and_parts (ltb x.looked_at (length d.looked_at.items)) (ltb x.reserved (length d.reserved.items)) p.1 in
      let moved : Mark = record x { reserved = n } in
      let y_known : is_known d y ≡ true =
      ap (is_known d) one.mark
      ∙ and_from (ltb x.access (length d.accesses.items)) (ltb x.looked_at (length d.looked_at.items) && ltb n (length d.reserved.items)) p.0
      (and_from (ltb x.looked_at (length d.looked_at.items)) (ltb n (length d.reserved.items)) q.0 (lt-ltb n (length d.reserved.items) was.number)) in
      let all = all_set (is_known d) new i y was.known y_known in
      let front : take (i + 1) (set new i y) ≡ take i new ++ y ∷ [] = take_more_set new i y within in
      let rest : drop (i + 1) (set new i y) ≡ zs = drop-set-lt (i + 1) new i y (omega arith) in
      let event : step_of e y ≡ record (step_of d x) { reserved = r } = step_same d e one.grown y y_known ∙ ap (step_of d) one.mark in
      record {
        grown = grown_still c d e was.grown one.grown;
        known = known_still d e one.grown (set new i y) all;
        number = one.known;
        harts = ap (list_all has_hart) rest ∙ (and_parts (has_hart x) (list_all has_hart zs) (ap (list_all has_hart) (sym rest_is) ∙ was.harts)).1;
        stays =
            ap (λ l. steps_of e l ++ renewed (reserved_by e after) (steps_of e (drop (i + 1) (set new i y)))) front
            ∙ ap (λ l. steps_of e (take i new ++ y ∷ []) ++ renewed (reserved_by e after) (steps_of e l)) rest
            ∙ ap (λ l. l ++ renewed (reserved_by e after) (steps_of e zs)) (map-append (step_of e) (take i new) (y ∷ []))
            ∙ append_assoc (steps_of e (take i new)) (step_of e y ∷ []) (renewed (reserved_by e after) (steps_of e zs))
            ∙ ap (λ l. l ++ step_of e y ∷ renewed (reserved_by e after) (steps_of e zs)) (steps_same d e one.grown (take i new) (known_front d new i was.known))
            ∙ ap (λ s. steps_of d (take i new) ++ s ∷ renewed (reserved_by e after) (steps_of e zs)) event
            ∙ ap (λ l. steps_of d (take i new) ++ record (step_of d x) { reserved = r } ∷ renewed (reserved_by e after) l) (steps_same d e one.grown zs (known_rest d new (i + 1) was.known))
            ∙ ap (λ s. steps_of d (take i new) ++ record (step_of d x) { reserved = r } ∷ renewed s (steps_of d zs)) one.reserved
            ∙ ap (λ l. steps_of d (take i new) ++ renewed r (steps_of d l)) (sym rest_is)
            ∙ was.stays;
      }

pub all_renewed : (c d : Details) (old new : List Mark) (first i n : ℕ) → AreRenewed c old first d new i n → length new ≤ i
    → AreOf c (renewed (reserved_by c first) (steps_of c old)) d new
all_renewed c d old new first i n was over = record {
  grown = was.grown;
  known = was.known;
  events =
      sym (ap (λ l. steps_of d l ++ renewed (reserved_by d n) (steps_of d (drop i new))) (take_all i new over)
      ∙ ap (λ l. steps_of d new ++ renewed (reserved_by d n) (steps_of d l)) (drop_all i new over)
      ∙ append-nil (steps_of d new))
      ∙ was.stays;
}

-- MOVED

some_is : {A : Type 0} (x y : A) → Some x ≡ Some y → x ≡ y
some_is x y same = ap (λ o. unwrap_or o x) same

pub first_known : (d : Details) (xs : List Mark) (x : Mark) → slice_get xs 0 ≡ Some x → are_known d xs ≡ true → x.reserved < length d.reserved.items
first_known d [] x there known = absurd (cc)
first_known d (y ∷ ys) x there known =
    let p = and_parts (ltb y.access (length d.accesses.items)) (ltb y.looked_at (length d.looked_at.items) && ltb y.reserved (length d.reserved.items)) (and_parts (is_known d y) (are_known d ys) known).0 in
    let q = and_parts (ltb y.looked_at (length d.looked_at.items)) (ltb y.reserved (length d.reserved.items)) p.1 in
    let P : Mark → Type 0 = λ m. m.reserved < length d.reserved.items in
    subst P (some_is y x there) (ltb-true y.reserved (length d.reserved.items) q.1)

moved_is : (d : Details) (h : ℕ) (old span : List Mark) (x : Mark) → slice_get old 0 ≡ Some x → span ≡ other_marks h old ++ own_marks h old
    → renewed (reserved_by d x.reserved) (steps_of d span) ≡ moved_steps h (steps_of d old)
moved_is d h [] span x there is = absurd (cc)
moved_is d h (y ∷ ys) span x there is =
    ap (λ (m : Mark). renewed (reserved_by d m.reserved) (steps_of d span)) (sym (some_is y x there))
    ∙ ap (λ l. renewed (reserved_by d y.reserved) l) (ap (steps_of d) is ∙ steps_parted d h (y ∷ ys))

pub moved : (c d : Details) (h : ℕ) (old span new : List Mark) (x : Mark) → slice_get old 0 ≡ Some x → span ≡ other_marks h old ++ own_marks h old
    → AreOf c (renewed (reserved_by c x.reserved) (steps_of c span)) d new → AreOf c (moved_steps h (steps_of c old)) d new
moved c d h old span new x there is made = record { grown = made.grown; known = made.known; events = made.events ∙ moved_is c h old span x there is }

pub none_moved : (d : Details) (h : ℕ) (old : List Mark) → old ≡ [] → AreOf d (moved_steps h (steps_of d old)) d old
none_moved d h [] none = record { grown = grown_same d; known = refl; events = refl }
none_moved d h (x ∷ xs) none = absurd (cc)

-- what is asked of them where they are renewed
pub eight_parted : (d : Details) (h : ℕ) (old span : List Mark) → span ≡ other_marks h old ++ own_marks h old → list_all is_of_eight (steps_of d old) ≡ true
    → list_all is_of_eight (steps_of d span) ≡ true
eight_parted d h old span is all = ap (list_all is_of_eight) (ap (steps_of d) is ∙ steps_parted d h old) ∙ all_parted is_of_eight h (steps_of d old) all

pub parted_known : (d : Details) (h : ℕ) (old span : List Mark) → span ≡ other_marks h old ++ own_marks h old → are_known d old ≡ true → are_known d span ≡ true
parted_known d h old span is known = ap (are_known d) is ∙ known_parted d h old known
