-- Marks stand for events: what has a number keeps it, so the events of marks stay while there come to be more details.
use Rattle.std.proofs.Common.{◌≡◌, ℕ, ◌<◌, List, [], ◌∷◌, ◌++◌, length, get_or, take, drop, refl, sym, ap, ◌∙◌, arith, append-nil, append_assoc, length-append, Bool, true, false, not, cond, ltb, ◌&&◌, filter, None, replicate}
use Rattle.std.specs.List.{list_all}
use Rattle.std.proofs.lemmas.Bool.{and_from, and_parts, lt-ltb, ltb-true}
use Rattle.std.proofs.lemmas.List.{get_or-append-add, get_or_append_left, map-append, take-append-drop}
use Rattle.std.proofs.lemmas.List.Folds.{list_all-append}
use Rattle.log_gather.specs.declared.accesses.TheConstants.{NO_ACCESS}
use Rattle.log_gather.specs.declared.marks.Details.{Details}
use Rattle.log_gather.specs.declared.marks.Mark.{Mark}
use Rattle.log_gather.specs.declared.steps.Step.{Step}
use Rattle.log_gather.specs.Facts.{is_of}
use Rattle.log_gather.specs.Marks.{IsAdded, IsGrown, IsLonger, IsMarked, IsNumbered, are_known, entry_marked, first_taken, is_known, other_marks, own_marks, step_of, steps_of}
use Rattle.log_gather.specs.Turns.{other_steps, own_steps, taken_first}

-- LISTS WITH MORE AT THEIR END

pub longer_same : {A : Type 0} (xs : List A) → IsLonger xs xs
longer_same xs = record { more = []; is = sym (append-nil xs) }

pub longer_still : {A : Type 0} (xs ys zs : List A) → IsLonger xs ys → IsLonger ys zs → IsLonger xs zs
longer_still xs ys zs a b = record { more = a.more ++ b.more; is = b.is ∙ ap (λ l. l ++ b.more) a.is ∙ append_assoc xs a.more b.more }

longer_at : {A : Type 0} (xs ys : List A) (n : ℕ) (d : A) → IsLonger xs ys → n < length xs → get_or ys n d ≡ get_or xs n d
longer_at xs ys n d longer within = ap (λ l. get_or l n d) longer.is ∙ get_or_append_left xs longer.more d n within

longer_within : {A : Type 0} (xs ys : List A) (n : ℕ) → IsLonger xs ys → ltb n (length xs) ≡ true → ltb n (length ys) ≡ true
longer_within xs ys n longer within =
    lt-ltb n (length ys) (omega (arith, ltb-true n (length xs) within, ap length longer.is, length-append xs longer.more))

-- a value that stands at a place already, and one that is put at the end
pub numbered_there : {A : Type 0} (xs ys : List A) (n : ℕ) (y x : A) → ys ≡ xs → n < length ys → ((d : A) → y ≡ get_or ys n d) → y ≡ x → IsNumbered xs x n xs
numbered_there xs ys n y x is within there same = record {
  longer = longer_same xs;
  known = omega (arith, within, ap length is);
  here = λ d. ap (λ l. get_or l n d) (sym is) ∙ sym (there d) ∙ same;
}

pub numbered_new : {A : Type 0} (xs ys : List A) (n : ℕ) (x : A) → n ≡ length xs → ys ≡ xs ++ x ∷ [] → IsNumbered xs x n ys
numbered_new xs ys n x many is = record {
  longer = record { more = x ∷ []; is = is };
  known = omega (arith, many, ap length is, length-append xs (x ∷ []));
  here = λ d. ap (λ l. get_or l n d) is ∙ ap (λ k. get_or (xs ++ x ∷ []) k d) (omega (arith, many)) ∙ get_or-append-add xs (x ∷ []) 0 d;
}

-- MORE DETAILS

pub grown_same : (d : Details) → IsGrown d d
grown_same d = record { accesses = longer_same d.accesses.items; looked_at = longer_same d.looked_at.items; reserved = longer_same d.reserved.items }

pub grown_still : (c d e : Details) → IsGrown c d → IsGrown d e → IsGrown c e
grown_still c d e a b = record {
  accesses = longer_still c.accesses.items d.accesses.items e.accesses.items a.accesses b.accesses;
  looked_at = longer_still c.looked_at.items d.looked_at.items e.looked_at.items a.looked_at b.looked_at;
  reserved = longer_still c.reserved.items d.reserved.items e.reserved.items a.reserved b.reserved;
}

module _ (d e : Details) (grown : IsGrown d e) where
  pub step_same : (x : Mark) → is_known d x ≡ true → step_of e x ≡ step_of d x
  step_same x known =
      let p = and_parts (ltb x.access (length d.accesses.items)) (ltb x.looked_at (length d.looked_at.items) && ltb x.reserved (length d.reserved.items)) known in
      let q = and_parts (ltb x.looked_at (length d.looked_at.items)) (ltb x.reserved (length d.reserved.items)) p.1 in
      let access = longer_at d.accesses.items e.accesses.items x.access NO_ACCESS grown.accesses (ltb-true x.access (length d.accesses.items) p.0) in
      let looked_at = longer_at d.looked_at.items e.looked_at.items x.looked_at None grown.looked_at (ltb-true x.looked_at (length d.looked_at.items) q.0) in
      let reserved = longer_at d.reserved.items e.reserved.items x.reserved (replicate 8 None) grown.reserved (ltb-true x.reserved (length d.reserved.items) q.1) in
      λ i. record (step_of d x) { access = access i; looked_at = looked_at i; reserved = reserved i }

  pub steps_same : (xs : List Mark) → are_known d xs ≡ true → steps_of e xs ≡ steps_of d xs
  steps_same [] known = refl
  steps_same (x ∷ xs) known =
      let q = and_parts (is_known d x) (are_known d xs) known in
      λ i. step_same x q.0 i ∷ steps_same xs q.1 i

  known_one : (x : Mark) → is_known d x ≡ true → is_known e x ≡ true
  known_one x known =
      let p = and_parts (ltb x.access (length d.accesses.items)) (ltb x.looked_at (length d.looked_at.items) && ltb x.reserved (length d.reserved.items)) known in
      let q = and_parts (ltb x.looked_at (length d.looked_at.items)) (ltb x.reserved (length d.reserved.items)) p.1 in
      and_from (ltb x.access (length e.accesses.items)) (ltb x.looked_at (length e.looked_at.items) && ltb x.reserved (length e.reserved.items))
      (longer_within d.accesses.items e.accesses.items x.access grown.accesses p.0)
      (and_from (ltb x.looked_at (length e.looked_at.items)) (ltb x.reserved (length e.reserved.items))
      (longer_within d.looked_at.items e.looked_at.items x.looked_at grown.looked_at q.0)
      (longer_within d.reserved.items e.reserved.items x.reserved grown.reserved q.1))

  pub known_still : (xs : List Mark) → are_known d xs ≡ true → are_known e xs ≡ true
  known_still [] known = refl
  known_still (x ∷ xs) known =
      let q = and_parts (is_known d x) (are_known d xs) known in
      and_from (is_known e x) (are_known e xs) (known_one x q.0) (known_still xs q.1)

-- the mark of an event, by the numbers of what is large of it
pub marked : (c d : Details) (x : Step) (m : Mark) → IsNumbered c.accesses.items x.access m.access d.accesses.items
    → IsNumbered c.looked_at.items x.looked_at m.looked_at d.looked_at.items → IsNumbered c.reserved.items x.reserved m.reserved d.reserved.items
    → step_of d m ≡ record (step_of d m) { entry = x.entry; plain = x.plain; inside = x.inside; within = x.within; begins = x.begins; moves_out = x.moves_out; awaits = x.awaits }
    → IsMarked c x m d
marked c d x m access looked_at reserved same = record {
  grown = record { accesses = access.longer; looked_at = looked_at.longer; reserved = reserved.longer };
  known =
      and_from (ltb m.access (length d.accesses.items)) (ltb m.looked_at (length d.looked_at.items) && ltb m.reserved (length d.reserved.items))
      (lt-ltb m.access (length d.accesses.items) access.known)
      (and_from (ltb m.looked_at (length d.looked_at.items)) (ltb m.reserved (length d.reserved.items))
      (lt-ltb m.looked_at (length d.looked_at.items) looked_at.known) (lt-ltb m.reserved (length d.reserved.items) reserved.known));
  event = same ∙ (λ i. record x { access = access.here NO_ACCESS i; looked_at = looked_at.here None i; reserved = reserved.here (replicate 8 None) i });
}

-- an event more
pub added : (c d : Details) (ms ns : List Mark) (x : Step) (m : Mark) → are_known c ms ≡ true → IsMarked c x m d → ns ≡ ms ++ m ∷ [] → IsAdded c ms x d ns
added c d ms ns x m known one is = record {
  known =
      ap (are_known d) is ∙ list_all-append (is_known d) ms (m ∷ [])
      ∙ and_from (are_known d ms) (are_known d (m ∷ [])) (known_still c d one.grown ms known) (and_from (is_known d m) true one.known refl);
  events =
      ap (steps_of d) is ∙ map-append (step_of d) ms (m ∷ []) ∙ ap (λ l. l ++ step_of d m ∷ []) (steps_same c d one.grown ms known)
      ∙ ap (λ y. steps_of c ms ++ y ∷ []) one.event;
}

-- EVENTS OF A HART

parted : (d : Details) (p : Step → Bool) (xs : List Mark) → filter p (steps_of d xs) ≡ steps_of d (filter (λ x. p (step_of d x)) xs)
parted d p [] = refl
parted d p (x ∷ xs) = go (p (step_of d x)) (parted d p xs)
  where
    go : (b : Bool) → filter p (steps_of d xs) ≡ steps_of d (filter (λ y. p (step_of d y)) xs)
        → cond b (step_of d x ∷ filter p (steps_of d xs)) (filter p (steps_of d xs)) ≡ steps_of d (cond b (x ∷ filter (λ y. p (step_of d y)) xs) (filter (λ y. p (step_of d y)) xs))
    go true rest = ap (λ l. step_of d x ∷ l) rest
    go false rest = rest

pub steps_parted : (d : Details) (h : ℕ) (xs : List Mark) → steps_of d (other_marks h xs ++ own_marks h xs) ≡ other_steps h (steps_of d xs) ++ own_steps h (steps_of d xs)
steps_parted d h xs =
    map-append (step_of d) (other_marks h xs) (own_marks h xs)
    ∙ ap (λ l. l ++ steps_of d (own_marks h xs)) (sym (parted d (λ x. not (is_of h x.entry)) xs))
    ∙ ap (λ l. other_steps h (steps_of d xs) ++ l) (sym (parted d (λ x. is_of h x.entry) xs))

pub filtered : {A : Type 0} (p q : A → Bool) (xs : List A) → list_all p xs ≡ true → list_all p (filter q xs) ≡ true
filtered p q [] all = refl
filtered p q (x ∷ xs) all =
    let parts = and_parts (p x) (list_all p xs) all in
    go (q x) parts.0 (filtered p q xs parts.1)
  where
    go : (b : Bool) → p x ≡ true → list_all p (filter q xs) ≡ true → list_all p (cond b (x ∷ filter q xs) (filter q xs)) ≡ true
    go true here rest = and_from (p x) (list_all p (filter q xs)) here rest
    go false here rest = rest

pub known_parted : (d : Details) (h : ℕ) (xs : List Mark) → are_known d xs ≡ true → are_known d (other_marks h xs ++ own_marks h xs) ≡ true
known_parted d h xs known =
    list_all-append (is_known d) (other_marks h xs) (own_marks h xs)
    ∙ and_from (are_known d (other_marks h xs)) (are_known d (own_marks h xs)) (filtered (is_known d) (λ x. not (is_of h (entry_marked x))) xs known) (filtered (is_known d) (λ x. is_of h (entry_marked x)) xs known)

-- the first awaits its turn no longer
pub steps_taken : (d : Details) (xs : List Mark) → steps_of d (first_taken xs) ≡ taken_first (steps_of d xs)
steps_taken d [] = refl
steps_taken d (x ∷ xs) = refl

pub known_taken : (d : Details) (xs : List Mark) → are_known d xs ≡ true → are_known d (first_taken xs) ≡ true
known_taken d [] known = refl
known_taken d (x ∷ xs) known = known

pub known_front : (d : Details) (xs : List Mark) (n : ℕ) → are_known d xs ≡ true → are_known d (take n xs) ≡ true
known_front d xs n known = (and_parts (are_known d (take n xs)) (are_known d (drop n xs)) (sym (list_all-append (is_known d) (take n xs) (drop n xs)) ∙ ap (are_known d) (take-append-drop n xs) ∙ known)).0

pub known_rest : (d : Details) (xs : List Mark) (n : ℕ) → are_known d xs ≡ true → are_known d (drop n xs) ≡ true
known_rest d xs n known = (and_parts (are_known d (take n xs)) (are_known d (drop n xs)) (sym (list_all-append (is_known d) (take n xs) (drop n xs)) ∙ ap (are_known d) (take-append-drop n xs) ∙ known)).1
