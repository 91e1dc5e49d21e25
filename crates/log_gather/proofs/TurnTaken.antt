-- A turn: what the code makes of its steps is what the definition makes of the events, and the other names stay.
use Rattle.std.proofs.Common.{◌≡◌, ℕ, ◌<◌, List, [], ◌∷◌, ◌++◌, filter, length, map, get_or, refl, sym, ap, ◌∙◌, arith, append_assoc, zero-add, Bool, true, false, not, cond, eqb, ltb, ◌&&◌, Option, None, unwrap_or, inl, inr}
use Rattle.std.proofs.Math.Path.{fun_ext}
use Rattle.std.specs.List.{list_all}
use Rattle.std.proofs.lemmas.List.{get_or-map, get_or-set_other, get_or-set_same, get_or_past, length-map, length-set, map-append}
use Rattle.std.proofs.lemmas.Bool.{and_from, and_parts, cases_lt, eqb-true, eqb-false, ltb-true}
use Rattle.rv_inst.specs.Accesses.{Bytes}
use Rattle.log_gather.specs.declared.steps.Step.{Step}
use Rattle.log_gather.specs.Facts.{Facts, is_of}
use Rattle.log_gather.specs.Located.{Located, event_in, facts_in, gather_located, located_from, lost_to_bytes, moved_if, moved_in, others_in, own_in, reserved_next}
use Rattle.log_gather.specs.LogEvents.{Name}
use Rattle.log_gather.specs.Spans.{after_from, before_act, begins_own, from_act, goes_on, is_private, rest_of_act, span_from}
use Rattle.log_gather.specs.Accesses.{bytes_in}
use Rattle.log_gather.specs.Steps.{facts_seen, located_of, names_awaited, reserved_in}
use Rattle.log_gather.specs.Turns.{after_turn, awaits_rightly, event_of, is_of_eight, moved_steps, moved_steps_if, none_await, other_steps, own_steps, renewed, reserved_after, taken}
use Rattle.log_gather.proofs.ActPlaces.{act_and_after, acts_begun, acts_begun_map, after_act_map, before_at, from_at, rest_of_act_map}
use Rattle.log_gather.proofs.AwaitedNames.{counted, counted_all, counted_is, is_quiet, names_moved, names_past, names_renewed, quiet_act}
use Rattle.log_gather.proofs.MarkedEvents.{filtered}

-- RESERVATIONS

lost_none : (xs : List Bytes) → lost_to_bytes xs None ≡ None
lost_none [] = refl
lost_none (x ∷ xs) = lost_none xs

kept : (x : Step) (reserved : List (Option ℕ)) (k : ℕ) → get_or (map (lost_to_bytes (bytes_in x.access.entered)) reserved) k None ≡ lost_to_bytes (bytes_in x.access.entered) (get_or reserved k None)
kept x reserved k = elim (cases_lt k (length reserved)) [
  | inl within ↦ get_or-map (lost_to_bytes (bytes_in x.access.entered)) reserved k None None within
  | inr past ↦
      get_or_past (map (lost_to_bytes (bytes_in x.access.entered)) reserved) k None (rw length-map past)
      ∙ sym (lost_none (bytes_in x.access.entered)) ∙ ap (lost_to_bytes (bytes_in x.access.entered)) (sym (get_or_past reserved k None past))
]

pub length_after : (x : Step) (reserved : List (Option ℕ)) → length (reserved_after x reserved) ≡ length reserved
length_after x reserved = simp (length-set, length-map)

-- what each hart has reserved after it is what the definition says
pub reserved_is : (x : Step) (reserved : List (Option ℕ)) → x.entry.hart.0 < length reserved → reserved_in (reserved_after x reserved) ≡ reserved_next (facts_seen x) (reserved_in reserved)
reserved_is x reserved within = fun_ext (λ k. go k (eqb x.entry.hart.0 k) refl)
  where
    go : (k : ℕ) (b : Bool) → eqb x.entry.hart.0 k ≡ b
        → get_or (reserved_after x reserved) k None ≡ cond b (unwrap_or x.access.reserves (get_or reserved k None)) (lost_to_bytes (bytes_in x.access.entered) (get_or reserved k None))
    go k true same =
        let at : x.entry.hart.0 ≡ k = eqb-true x.entry.hart.0 k same in
        ap (λ j. get_or (reserved_after x reserved) j None) (sym at)
        ∙ get_or-set_same (map (lost_to_bytes (bytes_in x.access.entered)) reserved) x.entry.hart.0 (unwrap_or x.access.reserves (get_or reserved x.entry.hart.0 None)) None (rw length-map within)
        ∙ ap (λ j. unwrap_or x.access.reserves (get_or reserved j None)) at
    go k false other =
        get_or-set_other (map (lost_to_bytes (bytes_in x.access.entered)) reserved) x.entry.hart.0 k (unwrap_or x.access.reserves (get_or reserved x.entry.hart.0 None)) None (λ q. eqb-false x.entry.hart.0 k other (sym q))
        ∙ kept x reserved k

-- EVENTS OF STEPS

-- the events that are renewed
renewed_located : (reserved : List (Option ℕ)) (xs : List Step) → length reserved ≡ 8 → list_all is_of_eight xs ≡ true
    → map located_of (renewed reserved xs) ≡ located_from (reserved_in reserved) (map facts_seen xs)
renewed_located reserved [] long all = refl
renewed_located reserved (x ∷ xs) long all =
    let q = and_parts (is_of_eight x) (list_all is_of_eight xs) all in
    let eight = and_parts (ltb x.entry.hart.0 8) (eqb (length x.reserved) 8) q.0 in
    let below : x.entry.hart.0 < length reserved = omega (arith, ltb-true x.entry.hart.0 8 eight.0) in
    ap (λ l. located_of (record x { reserved = reserved }) ∷ l)
    (renewed_located (reserved_after x reserved) xs (length_after x reserved ∙ long) q.1
    ∙ ap (λ r. located_from r (map facts_seen xs)) (reserved_is x reserved below))

filter_located : (p : Facts → Bool) (xs : List Step) → map facts_in (filter (λ y. p y.facts) (map located_of xs)) ≡ map facts_seen (filter (λ x. p (facts_seen x)) xs)
filter_located p [] = refl
filter_located p (x ∷ xs) = go (p (facts_seen x)) (filter_located p xs)
  where
    go : (b : Bool) → map facts_in (filter (λ y. p y.facts) (map located_of xs)) ≡ map facts_seen (filter (λ x. p (facts_seen x)) xs)
        → map facts_in (cond b (located_of x ∷ filter (λ y. p y.facts) (map located_of xs)) (filter (λ y. p y.facts) (map located_of xs)))
        ≡ map facts_seen (cond b (x ∷ filter (λ x. p (facts_seen x)) xs) (filter (λ x. p (facts_seen x)) xs))
    go true rest = ap (λ l. facts_seen x ∷ l) rest
    go false rest = rest

pub all_append : {A : Type 0} (p : A → Bool) (xs ys : List A) → list_all p xs ≡ true → list_all p ys ≡ true → list_all p (xs ++ ys) ≡ true
all_append p [] ys front back = back
all_append p (x ∷ xs) ys front back =
    let q = and_parts (p x) (list_all p xs) front in
    and_from (p x) (list_all p (xs ++ ys)) q.0 (all_append p xs ys q.1 back)

-- what holds of all of a span holds of all where others come first
pub all_parted : (p : Step → Bool) (h : ℕ) (span : List Step) → list_all p span ≡ true → list_all p (other_steps h span ++ own_steps h span) ≡ true
all_parted p h span all =
    all_append p (other_steps h span) (own_steps h span) (filtered p (λ y. not (is_of h y.entry)) span all) (filtered p (λ y. is_of h y.entry) span all)

-- a span that is moved
moved_located : (h : ℕ) (span : List Step) → list_all is_of_eight span ≡ true → map located_of (moved_steps h span) ≡ moved_in h (map located_of span)
moved_located h [] all = refl
moved_located h (x ∷ xs) all =
    let q = and_parts (is_of_eight x) (list_all is_of_eight xs) all in
    let eight = and_parts (ltb x.entry.hart.0 8) (eqb (length x.reserved) 8) q.0 in
    let others = other_steps h (x ∷ xs) in
    let own = own_steps h (x ∷ xs) in
    renewed_located x.reserved (others ++ own) (eqb-true (length x.reserved) 8 eight.1)
    (all_parted is_of_eight h (x ∷ xs) all)
    ∙ ap (located_from (reserved_in x.reserved))
    (map-append facts_seen others own
    ∙ ap (λ l. l ++ map facts_seen own) (sym (filter_located (λ t. not (is_of h t.entry)) (x ∷ xs)))
    ∙ ap (λ l. map facts_in (others_in h (map located_of (x ∷ xs))) ++ l) (sym (filter_located (λ t. is_of h t.entry) (x ∷ xs)))
    ∙ sym (map-append facts_in (others_in h (map located_of (x ∷ xs))) (own_in h (map located_of (x ∷ xs)))))

moved_located_if : (private : Bool) (h : ℕ) (span : List Step) → list_all is_of_eight span ≡ true → map located_of (moved_steps_if private h span) ≡ moved_if private h (map located_of span)
moved_located_if true h span all = moved_located h span all
moved_located_if false h span all = refl

events_located : (xs : List Step) → map event_in (map located_of xs) ≡ map event_of xs
events_located [] = refl
events_located (x ∷ xs) = ap (λ l. event_of x ∷ l) (events_located xs)

-- A TURN

module _ (at_end : ℕ → Bool) (earlier : List Step) (x : Step) (rest : List Step) where
  abbrev hart : ℕ
  hart = x.entry.hart.0

  abbrev span : List Step
  span = span_from facts_seen hart (taken x ∷ rest)

  abbrev later : List Step
  later = after_from facts_seen hart (taken x ∷ rest)

  abbrev private : Bool
  private = is_private hart (at_end hart) (map event_of span) (map event_of later)

  -- its name
  abbrev pub name_here : Name
  name_here = record { hart = hart; number = acts_begun facts_seen hart earlier }

  all_in_act : (p : Step → Bool) (xs : List Step) → list_all p xs ≡ true → list_all p (rest_of_act facts_seen hart xs) ≡ true
  all_in_act p [] all = refl
  all_in_act p (y ∷ ys) all =
      let q = and_parts (p y) (list_all p ys) all in
      go (goes_on facts_seen hart (y ∷ ys)) q.0 (all_in_act p ys q.1)
    where
      go : (b : Bool) → p y ≡ true → list_all p (rest_of_act facts_seen hart ys) ≡ true → list_all p (cond b (y ∷ rest_of_act facts_seen hart ys) []) ≡ true
      go true here more = and_from (p y) (list_all p (rest_of_act facts_seen hart ys)) here more
      go false here more = refl

  -- what follows it is what followed, with the events of the span before
  span_and_later : span ++ later ≡ taken x ∷ rest
  span_and_later = ap (λ l. taken x ∷ l) (act_and_after facts_seen hart rest)

  -- the events are those of the definition
  pub turn_located : begins_own hart (facts_seen x) ≡ true → list_all is_of_eight (x ∷ rest) ≡ true
      → map located_of (earlier ++ after_turn at_end (x ∷ rest)) ≡ gather_located at_end (map located_of (earlier ++ x ∷ rest)) name_here
  turn_located begins eight =
      let n = acts_begun facts_seen hart earlier in
      let before = map located_of earlier in
      let from = located_of x ∷ map located_of rest in
      let whole : map located_of (earlier ++ x ∷ rest) ≡ before ++ from = map-append located_of earlier (x ∷ rest) in
      let number : n ≡ acts_begun facts_in hart before = sym (acts_begun_map facts_in located_of hart earlier) in
      let first : before_act facts_in hart n (map located_of (earlier ++ x ∷ rest)) ≡ before =
      ap (before_act facts_in hart n) whole ∙ before_at facts_in hart (located_of x) (map located_of rest) begins n before number in
      let then_from : from_act facts_in hart n (map located_of (earlier ++ x ∷ rest)) ≡ from =
      ap (from_act facts_in hart n) whole ∙ from_at facts_in hart (located_of x) (map located_of rest) begins n before number in
      let spans : span_from facts_in hart from ≡ map located_of span = ap (λ l. located_of x ∷ l) (rest_of_act_map facts_in located_of hart rest) in
      let laters : after_from facts_in hart from ≡ map located_of later = after_act_map facts_in located_of hart rest in
      let q = and_parts (is_of_eight x) (list_all is_of_eight rest) eight in
      let all : list_all is_of_eight span ≡ true = and_from (is_of_eight x) (list_all is_of_eight (rest_of_act facts_seen hart rest)) q.0 (all_in_act is_of_eight rest q.1) in
      let made : List Located → List Located → List Located = λ s l. moved_if (is_private hart (at_end hart) (map event_in s) (map event_in l)) hart s ++ l in
      let privates : is_private hart (at_end hart) (map event_in (map located_of span)) (map event_in (map located_of later)) ≡ private =
      ap (λ s. is_private hart (at_end hart) s (map event_in (map located_of later))) (events_located span)
      ∙ ap (is_private hart (at_end hart) (map event_of span)) (events_located later) in
      map-append located_of earlier (after_turn at_end (x ∷ rest))
      ∙ ap (λ l. before ++ l)
      (map-append located_of (moved_steps_if private hart span) later
      ∙ ap (λ l. l ++ map located_of later)
      (moved_located_if private hart span all ∙ ap (λ b. moved_if b hart (map located_of span)) (sym privates))
      ∙ ap (λ s. made s (map located_of later)) (sym spans)
      ∙ ap (made (span_from facts_in hart from)) (sym laters)
      ∙ ap (λ f. made (span_from facts_in hart f) (after_from facts_in hart f)) (sym then_from))
      ∙ ap (λ l. l ++ made (span_from facts_in hart (from_act facts_in hart n (map located_of (earlier ++ x ∷ rest)))) (after_from facts_in hart (from_act facts_in hart n (map located_of (earlier ++ x ∷ rest))))) (sym first)

  -- and the names that await their turn are the others
  pub turn_names : none_await earlier ≡ true → x.awaits ≡ true → list_all awaits_rightly rest ≡ true
      → names_awaited (λ k. 0) (earlier ++ x ∷ rest) ≡ name_here ∷ names_awaited (λ k. 0) (earlier ++ after_turn at_end (x ∷ rest))
  turn_names none awaits right =
      let acts = counted_all (λ k. 0) earlier in
      let number : acts hart ≡ acts_begun facts_seen hart earlier = counted_is (λ k. 0) hart earlier ∙ zero-add (acts_begun facts_seen hart earlier) in
      let others : names_awaited (counted x acts) rest ≡ names_awaited acts (after_turn at_end (x ∷ rest)) = ap (names_awaited acts) (sym span_and_later) ∙ go private in
      names_past (λ k. 0) earlier (x ∷ rest) none
      ∙ ap (λ b. cond b (record { hart = hart; number = acts hart } ∷ names_awaited (counted x acts) rest) (names_awaited (counted x acts) rest)) awaits
      ∙ ap (λ n. record { hart = hart; number = n } ∷ names_awaited (counted x acts) rest) number
      ∙ ap (λ l. name_here ∷ l) (others ∙ sym (names_past (λ k. 0) earlier (after_turn at_end (x ∷ rest)) none))
    where
      quiet : list_all (is_quiet hart) span ≡ true
      quiet = and_from (not (is_of hart x.entry && false)) (list_all (is_quiet hart) (rest_of_act facts_seen hart rest)) (never (is_of hart x.entry)) (quiet_act hart rest right)
        where
          never : (b : Bool) → not (b && false) ≡ true
          never true = refl
          never false = refl

      go : (b : Bool) → names_awaited (counted_all (λ k. 0) earlier) (span ++ later) ≡ names_awaited (counted_all (λ k. 0) earlier) (moved_steps_if b hart span ++ later)
      go false = refl
      go true =
          let acts = counted_all (λ k. 0) earlier in
          names_moved hart span later acts quiet
          ∙ ap (names_awaited acts) (sym (append_assoc (other_steps hart span) (own_steps hart span) later))
          ∙ sym (names_renewed acts x.reserved (other_steps hart span ++ own_steps hart span) later)
