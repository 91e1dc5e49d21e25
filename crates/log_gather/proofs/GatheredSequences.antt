-- A log in which one sequence is gathered goes on to be a block run, with the same events for each hart, and all is as it was after it.
use Rattle.std.proofs.Common.{◌≡◌, ℕ, zero, suc, ◌+◌, List, [], ◌∷◌, ◌++◌, length, filter, map, refl, sym, ap, ◌∙◌, subst, arith, append-nil, append_assoc, length-append, Bool, true, false, not, cond, eqb, leb, ltb, ◌&&◌, ◌||◌, inl, inr}
use Rattle.std.specs.List.{AllByRecursion, fold, list_all, list_any}
use Rattle.std.proofs.lemmas.List.Filters.{length-filter_both}
use Rattle.std.proofs.lemmas.List.Sums.{fold-append}
use Rattle.std.proofs.lemmas.Bool.{and_parts, cases_eq, ne_eqb, eqb-false, eqb-true, false≢true, leb-true, lt-ltb, ltb-true, not-true, or_parts}
use Rattle.mach_types.specs.declared.events.Entry.{Entry}
use Rattle.block_model.proofs.Laws.{run_before, same_state}
use Rattle.block_model.specs.Plain.{plain_after, plain_next}
use Rattle.block_model.specs.Run.{IsBlockRun}
use Rattle.block_model.specs.Setting.{Setting}
use Rattle.rv_inst.specs.Accesses.{Bytes}
use Rattle.block_model.specs.Footprints.{has_byte, have_byte, overlap, overlap_any}
use Rattle.log_gather.specs.LogEvents.{LogEvent, Name, clash, entry_of, clashes_with_none, is_own, is_undisturbed, log_event, log_events, others_of, own_of, reads_of, facts_of, writes_of}
use Rattle.log_gather.specs.Spans.{after_act, after_from, before_act, begins_own, from_act, gather_span, gathered_by_spans, gathered_if, gathered_in, has_moved_out, is_inside_next, is_sequence, names_of, goes_on, is_inside_at_place, is_private, rest_of_act, span_from}
use Rattle.block_model.specs.Swaps.{IsEquivalentRun}
use Rattle.log_gather.proofs.Gatherable.{AreFree, IsGatherable, other_facts, own_facts}
use Rattle.log_gather.specs.Facts.{Facts, Place, facts_along, facts_at, first_place, is_of, next_place, other_entries, own_entries, place_after, place_from}
use Rattle.log_gather.proofs.GatheredSpans.{span_gathers, machine_after, place-more}
use Rattle.block_model.proofs.Swaps.Logs.{goes_on as run_goes_on, plain_after-append, seen}
use Rattle.log_gather.proofs.FactsStay.{have_append}

-- LISTS

pub filter_map : {A B : Type 0} (f : A → B) (p : B → Bool) (xs : List A) → filter p (map f xs) ≡ map f (filter (λ x. p (f x)) xs)
filter_map f p [] = refl
filter_map f p (x ∷ xs) = go (p (f x)) (filter_map f p xs)
  where
    go : (b : Bool) → filter p (map f xs) ≡ map f (filter (λ x. p (f x)) xs) → cond b (f x ∷ filter p (map f xs)) (filter p (map f xs)) ≡ map f (cond b (x ∷ filter (λ x. p (f x)) xs) (filter (λ x. p (f x)) xs))
    go true rest = ap (λ l. f x ∷ l) rest
    go false rest = rest

pub map_append : {A B : Type 0} (f : A → B) (xs ys : List A) → map f (xs ++ ys) ≡ map f xs ++ map f ys
map_append f [] ys = refl
map_append f (x ∷ xs) ys = ap (λ l. f x ∷ l) (map_append f xs ys)

pub all_map : {A B : Type 0} (P : B → Type 0) (f : A → B) (xs : List A) → AllByRecursion (λ x. P (f x)) xs → AllByRecursion P (map f xs)
all_map P f [] all = tt
all_map P f (x ∷ xs) all = (all.0, all_map P f xs all.1)

all_both : {A : Type 0} (P Q R : A → Type 0) (xs : List A) → ((x : A) → P x → Q x → R x) → AllByRecursion P xs → AllByRecursion Q xs → AllByRecursion R xs
all_both P Q R [] both p q = tt
all_both P Q R (x ∷ xs) both p q = (both x p.0 q.0, all_both P Q R xs both p.1 q.1)

pub all_tested : {A : Type 0} (p : A → Bool) (xs : List A) → list_all p xs ≡ true → AllByRecursion (λ x. p x ≡ true) xs
all_tested p [] is = tt
all_tested p (x ∷ xs) is = let q = and_parts (p x) (list_all p xs) is in (q.0, all_tested p xs q.1)

all_filtered : {A : Type 0} (p : A → Bool) (xs : List A) → AllByRecursion (λ x. p x ≡ true) (filter p xs)
all_filtered p [] = tt
all_filtered {A = A} p (x ∷ xs) = go (p x) refl (all_filtered p xs)
  where
    go : (b : Bool) → p x ≡ b → AllByRecursion (λ (x : A). p x ≡ true) (filter p xs) → AllByRecursion (λ (x : A). p x ≡ true) (cond b (x ∷ filter p xs) (filter p xs))
    go true is rest = (is, rest)
    go false is rest = rest

-- what holds of all holds of those that are kept
pub all_kept : {A : Type 0} (P : A → Type 0) (p : A → Bool) (xs : List A) → AllByRecursion P xs → AllByRecursion P (filter p xs)
all_kept P p [] all = tt
all_kept P p (x ∷ xs) all = go (p x) (all_kept P p xs all.1)
  where
    go : (b : Bool) → AllByRecursion P (filter p xs) → AllByRecursion P (cond b (x ∷ filter p xs) (filter p xs))
    go true rest = (all.0, rest)
    go false rest = rest

pub filter_append : {A : Type 0} (p : A → Bool) (xs ys : List A) → filter p (xs ++ ys) ≡ filter p xs ++ filter p ys
filter_append p [] ys = refl
filter_append p (x ∷ xs) ys = go (p x) (filter_append p xs ys)
  where
    go : (b : Bool) → filter p (xs ++ ys) ≡ filter p xs ++ filter p ys → cond b (x ∷ filter p (xs ++ ys)) (filter p (xs ++ ys)) ≡ cond b (x ∷ filter p xs) (filter p xs) ++ filter p ys
    go true rest = ap (λ l. x ∷ l) rest
    go false rest = rest

-- of what passes one test, what passes another: all of it, or none
filter_all : {A : Type 0} (p q : A → Bool) (xs : List A) → ((x : A) → p x ≡ true → q x ≡ true) → filter p (filter q xs) ≡ filter p xs
filter_all p q [] all = refl
filter_all p q (x ∷ xs) all = go (p x) (q x) (all x) (filter_all p q xs all) refl
  where
    go : (b c : Bool) → (b ≡ true → c ≡ true) → filter p (filter q xs) ≡ filter p xs → p x ≡ b → filter p (cond c (x ∷ filter q xs) (filter q xs)) ≡ cond b (x ∷ filter p xs) (filter p xs)
    go true true too rest is = rw is (ap (λ l. x ∷ l) rest)
    go true false too rest is = absurd (false≢true (too refl))
    go false true too rest is = rw is rest
    go false false too rest is = rest

filter_none : {A : Type 0} (p q : A → Bool) (xs : List A) → ((x : A) → p x ≡ true → q x ≡ false) → filter p (filter q xs) ≡ []
filter_none p q [] none = refl
filter_none p q (x ∷ xs) none = go (p x) (q x) (none x) (filter_none p q xs none) refl
  where
    go : (b c : Bool) → (b ≡ true → c ≡ false) → filter p (filter q xs) ≡ [] → p x ≡ b → filter p (cond c (x ∷ filter q xs) (filter q xs)) ≡ []
    go true true never rest is = absurd (false≢true (sym (never refl)))
    go true false never rest is = rest
    go false true never rest is = rw is rest
    go false false never rest is = rest

-- gathering keeps what is of each hart in its order
module _ {A : Type 0} (e : A → Entry) (h k : ℕ) where
  abbrev kept : A → Bool
  kept x = is_of k (e x)

  abbrev its : A → Bool
  its x = is_of h (e x)

  abbrev not_its : A → Bool
  not_its x = not (is_of h (e x))

  apart : (x : A) → is_of k (e x) ≡ true → (k ≡ h → ⊥) → is_of h (e x) ≡ false
  apart x is other = ne_eqb (e x).hart.0 h (λ q. other (sym (eqb-true (e x).hart.0 k is) ∙ q))

  pub same_own : (span : List A) → filter kept (filter not_its span ++ filter its span) ≡ filter kept span
  same_own span = elim (cases_eq k h) [
    | inl same ↦
        filter_append kept (filter not_its span) (filter its span)
        ∙ ap (λ l. l ++ filter kept (filter its span)) (filter_none kept not_its span (λ x is. ap (λ j. not (eqb (e x).hart.0 j)) (sym same) ∙ ap not is))
        ∙ filter_all kept its span (λ x is. ap (eqb (e x).hart.0) (sym same) ∙ is)
    | inr other ↦
        filter_append kept (filter not_its span) (filter its span)
        ∙ ap (λ l. l ++ filter kept (filter its span)) (filter_all kept not_its span (λ x is. ap not (apart x is other)))
        ∙ ap (λ l. filter kept span ++ l) (filter_none kept its span (λ x is. apart x is other))
        ∙ append-nil (filter kept span)
  ]

-- EVENTS

pub log_events_entries : (s : Setting) (p : Place) (log : List Entry) → map entry_of (log_events s p log) ≡ log
log_events_entries s p [] = refl
log_events_entries s p (e ∷ log) = ap (λ l. e ∷ l) (log_events_entries s (next_place s p e) log)

pub log_events_facts : (s : Setting) (p : Place) (log : List Entry) → map facts_of (log_events s p log) ≡ facts_along s p log
log_events_facts s p [] = refl
log_events_facts s p (e ∷ log) = ap (λ l. facts_at s p e ∷ l) (log_events_facts s (next_place s p e) log)

-- two parts
pub record IsSplit (s : Setting) (p : Place) (log : List Entry) (xs ys : List LogEvent) : Type 0 where
  pub entries : log ≡ map entry_of xs ++ map entry_of ys
  pub first : log_events s p (map entry_of xs) ≡ xs
  pub rest : log_events s (place_from s p (map entry_of xs)) (map entry_of ys) ≡ ys

pub split : (s : Setting) (p : Place) (log : List Entry) (xs ys : List LogEvent) → log_events s p log ≡ xs ++ ys → IsSplit s p log xs ys
split s p log [] ys is =
    let entries : log ≡ map entry_of ys = sym (log_events_entries s p log) ∙ ap (map entry_of) is in
    record { entries = entries; first = refl; rest = ap (log_events s p) (sym entries) ∙ is }
split s p [] (x ∷ xs) ys is = absurd cc
split s p (e ∷ log) (x ∷ xs) ys is =
    let head : log_event s p e ≡ x = cc in
    let tail : log_events s (next_place s p e) log ≡ xs ++ ys = cc in
    let more = split s (next_place s p e) log xs ys tail in
    let one : IsSplit s p (e ∷ log) (log_event s p e ∷ xs) ys = record {
      entries = ap (λ l. e ∷ l) more.entries;
      first = ap (λ l. log_event s p e ∷ l) more.first;
      rest = more.rest;
    } in
    subst (λ x. IsSplit s p (e ∷ log) (x ∷ xs) ys) head one

-- the parts of a list by an act
pub before_from : {A : Type 0} (f : A → Facts) (h n : ℕ) (xs : List A) → before_act f h n xs ++ from_act f h n xs ≡ xs
before_from f h n [] = refl
before_from f h zero (x ∷ xs) = go (begins_own h (f x)) (before_from f h zero xs)
  where
    go : (b : Bool) → before_act f h zero xs ++ from_act f h zero xs ≡ xs → cond b [] (x ∷ before_act f h zero xs) ++ cond b (x ∷ xs) (from_act f h zero xs) ≡ x ∷ xs
    go true rest = refl
    go false rest = ap (λ l. x ∷ l) rest
before_from f h (suc n) (x ∷ xs) = go (begins_own h (f x)) (before_from f h n xs) (before_from f h (suc n) xs)
  where
    go : (b : Bool) → before_act f h n xs ++ from_act f h n xs ≡ xs → before_act f h (suc n) xs ++ from_act f h (suc n) xs ≡ xs
        → (x ∷ cond b (before_act f h n xs) (before_act f h (suc n) xs)) ++ cond b (from_act f h n xs) (from_act f h (suc n) xs) ≡ x ∷ xs
    go true one other = ap (λ l. x ∷ l) one
    go false one other = ap (λ l. x ∷ l) other

rest_after : {A : Type 0} (f : A → Facts) (h : ℕ) (xs : List A) → rest_of_act f h xs ++ after_act f h xs ≡ xs
rest_after f h [] = refl
rest_after f h (x ∷ xs) = go (goes_on f h (x ∷ xs)) (rest_after f h xs)
  where
    go : (b : Bool) → rest_of_act f h xs ++ after_act f h xs ≡ xs → cond b (x ∷ rest_of_act f h xs) [] ++ cond b (after_act f h xs) (x ∷ xs) ≡ x ∷ xs
    go true rest = ap (λ l. x ∷ l) rest
    go false rest = refl

pub span_after : {A : Type 0} (f : A → Facts) (h : ℕ) (xs : List A) → span_from f h xs ++ after_from f h xs ≡ xs
span_after f h [] = refl
span_after f h (x ∷ xs) = ap (λ l. x ∷ l) (rest_after f h xs)

-- NO CLASH

overlaps : (x y : Bytes) (a : ℕ) → has_byte x a ≡ true → has_byte y a ≡ true → overlap x y ≡ true
overlaps x y a in_x in_y =
    let p = and_parts (leb x.at a) (ltb a (x.at + x.count)) in_x in
    let q = and_parts (leb y.at a) (ltb a (y.at + y.count)) in_y in
    let over = leb-true x.at a p.0 in
    let under = ltb-true a (x.at + x.count) p.1 in
    let over_y = leb-true y.at a q.0 in
    let under_y = ltb-true a (y.at + y.count) q.1 in
    simp (lt-ltb 0 x.count (omega arith), lt-ltb 0 y.count (omega arith), lt-ltb x.at (y.at + y.count) (omega arith), lt-ltb y.at (x.at + x.count) (omega arith))

none_overlaps : (x : Bytes) (ys : List Bytes) (a : ℕ) → list_any (overlap x) ys ≡ false → has_byte x a ≡ true → have_byte ys a ≡ false
none_overlaps x [] a out in_x = refl
none_overlaps x (y ∷ ys) a out in_x =
    let p = or_parts (overlap x y) (list_any (overlap x) ys) out in
    go (has_byte y a) refl p.0 (none_overlaps x ys a p.1 in_x)
  where
    go : (b : Bool) → has_byte y a ≡ b → overlap x y ≡ false → have_byte ys a ≡ false → (b || have_byte ys a) ≡ false
    go true is apart rest = absurd (false≢true (sym apart ∙ overlaps x y a in_x is))
    go false is apart rest = rest

pub no_overlap : (xs ys : List Bytes) (a : ℕ) → overlap_any xs ys ≡ false → have_byte xs a ≡ true → have_byte ys a ≡ false
no_overlap [] ys a out is = absurd (false≢true is)
no_overlap (x ∷ xs) ys a out is =
    let p = or_parts (list_any (overlap x) ys) (overlap_any xs ys) out in
    go (has_byte x a) refl p.0 is (λ more. no_overlap xs ys a p.1 more)
  where
    go : (b : Bool) → has_byte x a ≡ b → list_any (overlap x) ys ≡ false → (b || have_byte xs a) ≡ true → (have_byte xs a ≡ true → have_byte ys a ≡ false) → have_byte ys a ≡ false
    go true in_x one is rest = none_overlaps x ys a one in_x
    go false in_x one is rest = rest is

unheld : (xs ys : List Bytes) (a : ℕ) → have_byte (xs ++ ys) a ≡ false → have_byte xs a ≡ false
unheld xs ys a out = (or_parts (have_byte xs a) (have_byte ys a) (sym (have_append xs ys a) ∙ out)).0

free_of : (h : ℕ) (x y : LogEvent) → is_own h x ≡ true → not (is_own h y) ≡ true → y.facts.plain ≡ true → not (clash x y) ≡ true → AreFree x.facts y.facts
free_of h x y own other plain free =
    let q = or_parts (overlap_any (writes_of x) (reads_of y)) (overlap_any (writes_of x) (writes_of y) || overlap_any (writes_of y) (reads_of x)) (not-true (clash x y) free) in
    let r = or_parts (overlap_any (writes_of x) (writes_of y)) (overlap_any (writes_of y) (reads_of x)) q.1 in
    let mine = eqb-true (entry_of x).hart.0 h own in
    let theirs = eqb-false (entry_of y).hart.0 h (not-true (is_own h y) other) in
    record {
      harts = λ same. theirs (sym same ∙ mine);
      plain = plain;
      apart = record {
        unread = λ a is. unheld y.facts.touched.reads y.held a (no_overlap (writes_of x) (reads_of y) a q.0 is);
        unwritten = λ a is. no_overlap (writes_of x) (writes_of y) a r.0 is;
        unread_too = λ a is. unheld x.facts.touched.reads x.held a (no_overlap (writes_of y) (reads_of x) a r.1 is);
      };
    }

pub own_facts_are : (h : ℕ) (span : List LogEvent) → own_facts h (map facts_of span) ≡ map facts_of (own_of h span)
own_facts_are h span = filter_map facts_of (λ t. is_of h t.entry) span

pub other_facts_are : (h : ℕ) (span : List LogEvent) → other_facts h (map facts_of span) ≡ map facts_of (others_of h span)
other_facts_are h span = filter_map facts_of (λ t. not (is_of h t.entry)) span

not_not : (b : Bool) → not (not b) ≡ b
not_not true = refl
not_not false = refl

-- a span in which nothing disturbs can be gathered
pub gatherable : (h : ℕ) (span : List LogEvent) → is_undisturbed h span ≡ true → IsGatherable h (map facts_of span)
gatherable h span is =
    let own = own_of h span in
    let others = others_of h span in
    let p = and_parts (list_all (λ x. x.facts.plain) span) (list_all (clashes_with_none others) own) is in
    let plain = all_tested (λ x. x.facts.plain) span p.0 in
    let is_other = all_filtered (λ x. not (is_own h x)) span in
    let plain_others = all_kept (λ x. x.facts.plain ≡ true) (λ x. not (is_own h x)) span plain in
    let free = all_both _ _ (λ x. AllByRecursion (AreFree x.facts) (map facts_of others)) own
    (λ x apart mine.
    all_map (AreFree x.facts) facts_of others
    (all_both _ _ (λ y. AreFree x.facts y.facts) others (λ y f n. free_of h x y mine n.0 n.1 f)
    (all_tested (λ y. not (clash x y)) others apart)
    (all_both _ _ (λ y. (not (is_own h y) ≡ true) × (y.facts.plain ≡ true)) others (λ y n p. (n, p)) is_other plain_others)))
    (all_tested (clashes_with_none others) own p.1) (all_filtered (is_own h) span) in
    record {
      plain = rw (own_facts_are h span) (all_map (λ t. t.plain ≡ true) facts_of own (all_kept (λ x. x.facts.plain ≡ true) (is_own h) span plain));
      free = rw (own_facts_are h span, other_facts_are h span) (all_map (λ (t : Facts). AllByRecursion (AreFree t) (map facts_of others)) facts_of own free);
    }

-- ONE SEQUENCE

pub place_from-append : (s : Setting) (p : Place) (xs ys : List Entry) → place_from s p (xs ++ ys) ≡ place_from s (place_from s p xs) ys
place_from-append s p xs ys = fold-append (next_place s) p xs ys

pub facts_along-append : (s : Setting) (p : Place) (xs ys : List Entry) → facts_along s p (xs ++ ys) ≡ facts_along s p xs ++ facts_along s (place_from s p xs) ys
facts_along-append s p [] ys = refl
facts_along-append s p (x ∷ xs) ys = ap (λ l. facts_at s p x ∷ l) (facts_along-append s (next_place s p x) xs ys)

-- which events a log has then
pub record IsMadeSo (s : Setting) (log made : List Entry) (events : List LogEvent) : Type 0 where
  pub good : IsEquivalentRun s log made
  pub own : (k : ℕ) → own_entries k made ≡ own_entries k log
  pub facts_are : facts_along s (first_place s) made ≡ map facts_of events

pub at_first : (s : Setting) (log : List Entry) → place_after s log ≡ place_from s (first_place s) log
unfolding place_after
at_first s log = refl

private_gathered : (s : Setting) (log : List Entry) (h : ℕ) (before span later : List LogEvent) → IsBlockRun s log → log_events s (first_place s) log ≡ before ++ (span ++ later)
    → is_undisturbed h span ≡ true → IsMadeSo s log (map entry_of (before ++ ((others_of h span ++ own_of h span) ++ later))) (before ++ ((others_of h span ++ own_of h span) ++ later))
private_gathered s log h before span later run is undisturbed =
    let start = first_place s in
    let one = split s start log before (span ++ later) is in
    let earlier = map entry_of before in
    let p = place_from s start earlier in
    let two = split s p (map entry_of (span ++ later)) span later one.rest in
    let ms = map entry_of span in
    let ls = map entry_of later in
    let os = other_entries h ms in
    let own = own_entries h ms in
    let is_log : log ≡ (earlier ++ ms) ++ ls = one.entries ∙ ap (λ l. earlier ++ l) two.entries ∙ sym (append_assoc earlier ms ls) in
    let run_all : IsBlockRun s ((earlier ++ ms) ++ ls) = subst (λ (l : List Entry). IsBlockRun s l) is_log run in
    let run_span = run_before s (earlier ++ ms) ls run_all in
    let facts_are : facts_along s p ms ≡ map facts_of span = sym (log_events_facts s p ms) ∙ ap (map facts_of) two.first in
    let at = at_first s earlier in
    let g = span_gathers s earlier p h ms at run_span (subst (IsGatherable h) (sym facts_are) (gatherable h span undisturbed)) in
    let same_place : place_after s (earlier ++ (os ++ own)) ≡ place_after s (earlier ++ ms) =
    place-more s earlier (os ++ own) ∙ ap (λ q. place_from s q (os ++ own)) at ∙ place_from-append s p os own ∙ g.same
    ∙ ap (λ q. place_from s q ms) (sym at) ∙ sym (place-more s earlier ms) in
    let same_machine : plain_after s (earlier ++ (os ++ own)) ≡ plain_after s (earlier ++ ms) =
    sym (machine_after s (earlier ++ (os ++ own))) ∙ ap (λ (q : Place). q.machine) same_place ∙ machine_after s (earlier ++ ms) in
    let long : length (earlier ++ ms) ≡ length (earlier ++ (os ++ own)) =
    length-append earlier ms ∙ ap (λ n. length earlier + n) (sym (length-append os own ∙ length-filter_both (λ e. not (is_of h e)) (is_of h) (λ e. sym (not_not (is_of h e))) ms))
    ∙ sym (length-append earlier (os ++ own)) in
    let made = run_goes_on s (earlier ++ ms) (earlier ++ (os ++ own)) ls (sym same_machine) long g.run run_all in
    let others_are : os ≡ map entry_of (others_of h span) = filter_map entry_of (λ e. not (is_of h e)) span in
    let own_are : own ≡ map entry_of (own_of h span) = filter_map entry_of (is_of h) span in
    let is_made : map entry_of (before ++ ((others_of h span ++ own_of h span) ++ later)) ≡ (earlier ++ (os ++ own)) ++ ls =
    map_append entry_of before ((others_of h span ++ own_of h span) ++ later)
    ∙ ap (λ l. earlier ++ l) (map_append entry_of (others_of h span ++ own_of h span) later ∙ ap (λ l. l ++ ls) (map_append entry_of (others_of h span) (own_of h span) ∙ ap (λ l. l ++ map entry_of (own_of h span)) (sym others_are) ∙ ap (λ l. os ++ l) (sym own_are)))
    ∙ sym (append_assoc earlier (os ++ own) ls) in
    let run_made = subst (λ (l : List Entry). IsBlockRun s l) (sym is_made) made in
    let new = map entry_of (before ++ ((others_of h span ++ own_of h span) ++ later)) in
    record {
      good = record {
        block_run = run_made;
        same = sym (same_state (seen s new) run_made) ∙ ap (plain_after s) is_made ∙ plain_after-append s (earlier ++ (os ++ own)) ls ∙ ap (λ m. fold (plain_next s) m ls) same_machine
            ∙ sym (plain_after-append s (earlier ++ ms) ls) ∙ ap (plain_after s) (sym is_log) ∙ same_state (seen s log) run;
      };
      own = λ k.
          ap (own_entries k) is_made ∙ filter_append (is_of k) (earlier ++ (os ++ own)) ls
          ∙ ap (λ l. l ++ own_entries k ls) (filter_append (is_of k) earlier (os ++ own) ∙ ap (λ l. own_entries k earlier ++ l) (same_own (λ (e : Entry). e) h k ms) ∙ sym (filter_append (is_of k) earlier ms))
          ∙ sym (filter_append (is_of k) (earlier ++ ms) ls) ∙ ap (own_entries k) (sym is_log);
      facts_are = ap (facts_along s start) (is_made ∙ append_assoc earlier (os ++ own) ls) ∙ facts_along-append s start earlier ((os ++ own) ++ ls)
          ∙ ap (λ l. l ++ facts_along s p ((os ++ own) ++ ls)) (sym (log_events_facts s start earlier) ∙ ap (map facts_of) one.first)
          ∙ ap (λ l. map facts_of before ++ l)
          (facts_along-append s p (os ++ own) ls
          ∙ ap (λ l. l ++ facts_along s (place_from s p (os ++ own)) ls)
          (facts_along-append s p os own ∙ ap (λ l. l ++ facts_along s (place_from s p os) own) (g.others_are ∙ ap (other_facts h) facts_are ∙ other_facts_are h span)
          ∙ ap (λ l. map facts_of (others_of h span) ++ l) (g.own_are ∙ ap (own_facts h) facts_are ∙ own_facts_are h span)
          ∙ sym (map_append facts_of (others_of h span) (own_of h span)))
          ∙ ap (λ l. map facts_of (others_of h span ++ own_of h span) ++ l)
          (ap (λ q. facts_along s q ls) (place_from-append s p os own ∙ g.same) ∙ sym (log_events_facts s (place_from s p ms) ls) ∙ ap (map facts_of) two.rest)
          ∙ sym (map_append facts_of (others_of h span ++ own_of h span) later))
          ∙ sym (map_append facts_of before ((others_of h span ++ own_of h span) ++ later));
    }

-- WHICHEVER SEQUENCE

gathered_or_left : (s : Setting) (log : List Entry) (h : ℕ) (before span later : List LogEvent) (b : Bool) → IsBlockRun s log → log_events s (first_place s) log ≡ before ++ (span ++ later)
    → (b ≡ true → is_undisturbed h span ≡ true) → IsMadeSo s log (map entry_of (before ++ (gathered_if b h span ++ later))) (before ++ (gathered_if b h span ++ later))
gathered_or_left s log h before span later true run is may = private_gathered s log h before span later run is (may refl)
gathered_or_left s log h before span later false run is may =
    let same : map entry_of (before ++ (span ++ later)) ≡ log = ap (map entry_of) (sym is) ∙ log_events_entries s (first_place s) log in
    subst (λ (l : List Entry). IsMadeSo s log l (before ++ (span ++ later))) (sym same)
    (record {
      good = record { block_run = run; same = refl };
      own = λ k. refl;
      facts_are = sym (log_events_facts s (first_place s) log) ∙ ap (map facts_of) is;
    })

pub undisturbed_if : (a b c d : Bool) → (a && (b && (c && d))) ≡ true → d ≡ true
undisturbed_if a b c d is = (and_parts c d (and_parts b (c && d) (and_parts a (b && (c && d)) is).1).1).1

pub gathers_one : (s : Setting) (log : List Entry) (x : Name) → IsBlockRun s log
    → IsMadeSo s log (gather_span s log x) (gathered_in (is_inside_at_place s (place_after s log) x.hart) x (log_events s (first_place s) log))
unfolding gather_span
gathers_one s log x run =
    let h = x.hart in
    let all = log_events s (first_place s) log in
    let before = before_act facts_of h x.number all in
    let from = from_act facts_of h x.number all in
    let span = span_from facts_of h from in
    let later = after_from facts_of h from in
    let at_end = is_inside_at_place s (place_after s log) h in
    let is : all ≡ before ++ (span ++ later) = sym (ap (λ l. before ++ l) (span_after facts_of h from) ∙ before_from facts_of h x.number all) in
    gathered_or_left s log h before span later (is_private h at_end span later) run is
    (undisturbed_if (is_sequence span) (has_moved_out h span) (not (is_inside_next h at_end later)) (is_undisturbed h span))

-- THE WHOLE LOG

pub record IsGatheredLog (s : Setting) (log made : List Entry) : Type 0 where
  pub good : IsEquivalentRun s log made
  pub own : (k : ℕ) → own_entries k made ≡ own_entries k log

pub gathers_all : (s : Setting) (names : List Name) (log : List Entry) → IsBlockRun s log → IsGatheredLog s log (fold (gather_span s) log names)
gathers_all s [] log run = record { good = record { block_run = run; same = refl }; own = λ k. refl }
gathers_all s (x ∷ names) log run =
    let one = gathers_one s log x run in
    let rest = gathers_all s names (gather_span s log x) one.good.block_run in
    record {
      good = record { block_run = rest.good.block_run; same = rest.good.same ∙ one.good.same };
      own = λ k. rest.own k ∙ one.own k;
    }

pub gathers : (s : Setting) (log : List Entry) → IsBlockRun s log → IsGatheredLog s log (gathered_by_spans s log)
unfolding gathered_by_spans
gathers s log run = gathers_all s (names_of s log) log run
