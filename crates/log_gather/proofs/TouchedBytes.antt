-- What the events of a sequence touch, found event by event.
use Rattle.std.proofs.Common.{◌≡◌, ℕ, ◌+◌, ◌<◌, List, [], ◌∷◌, ◌++◌, length, get_or, map, take, refl, sym, ap, subst, ◌∙◌, append-nil, Bool, true, false, not, cond, ◌&&◌, ◌||◌, Option}
use Rattle.std.proofs.Math.Path.{fun_ext}
use Rattle.std.specs.List.{flat_map, list_all, list_any}
use Rattle.std.specs.Option.{option_map_or}
use Rattle.std.proofs.lemmas.Bool.{or_left}
use Rattle.std.proofs.lemmas.List.{map-append, take_more}
use Rattle.std.proofs.lemmas.List.Folds.{list_any-append}
use Rattle.mach_types.specs.declared.sequences.TheConstants.{DESCRIPTOR_SIZE, FLAGS, RSEQ_CS}
use Rattle.rv_inst.specs.Accesses.{Bytes, bytes}
use Rattle.block_model.specs.Footprints.{has_byte, have_byte, overlap_any}
use Rattle.rseq_area.specs.declared.lookups.Lookups.{Lookups}
use Rattle.log_gather.specs.declared.accesses.Access.{Access}
use Rattle.log_gather.specs.Accesses.{bytes_in}
use Rattle.log_gather.specs.ByteSets.{AreWith, HasLookedAt, HasTouched, IsBounded, IsReady, IsTouched, IsWith, any_in, clashes_in, disturbs, holds}
use Rattle.log_gather.specs.Facts.{is_of}
use Rattle.log_gather.specs.LogEvents.{LogEvent, clash, is_own, is_undisturbed, own_of, reads_of, writes_of}
use Rattle.log_gather.specs.Lookups.{bytes_if, bytes_looked_at}
use Rattle.log_gather.specs.Marks.{entry_marked, step_of, steps_of}
use Rattle.log_gather.specs.Turns.{event_of, own_steps}
use Rattle.log_gather.specs.declared.byte_sets.ByteSet.{ByteSet}
use Rattle.log_gather.specs.declared.clashes.Touched.{Touched}
use Rattle.log_gather.specs.declared.marks.Details.{Details}
use Rattle.log_gather.specs.declared.marks.Mark.{Mark}
use Rattle.log_gather.specs.declared.steps.Step.{Step}
use Rattle.log_gather.proofs.ClashingBytes.{any_in_is, clashes_with_one, undisturbed_is}
use Rattle.log_gather.proofs.GatheredSequences.{filter_append}

or_true : (b : Bool) → (b || true) ≡ true
or_true true = refl
or_true false = refl

or_false : (b : Bool) → b ≡ (b || false)
or_false true = refl
or_false false = refl

or_again : (b c : Bool) → (c ≡ true → b ≡ true) → b ≡ (b || c)
or_again true c there = refl
or_again false true there = there refl
or_again false false there = refl

or_all : (a b c : Bool) → ((a || b) || c) ≡ (a || (b || c))
or_all true b c = refl
or_all false b c = refl

-- what is there already
pub with_again : (s : ByteSet) (xs : List Bytes) → IsBounded s → ((a : ℕ) → have_byte xs a ≡ true → holds s a ≡ true) → AreWith s xs s
with_again s xs bounded there = record { members = λ a. or_again (holds s a) (have_byte xs a) (there a); bounded = bounded }

pub with_none : (s : ByteSet) → IsBounded s → AreWith s [] s
with_none s bounded = record { members = λ a. or_false (holds s a); bounded = bounded }

have_both : (xs ys : List Bytes) (a : ℕ) → have_byte (xs ++ ys) a ≡ (have_byte xs a || have_byte ys a)
have_both xs ys a = list_any-append _ xs ys

with_both : {s t u : ByteSet} (xs ys : List Bytes) → AreWith s xs t → AreWith t ys u → AreWith s (xs ++ ys) u
with_both {s = s} xs ys front back = record {
  members = λ a. back.members a ∙ ap (λ b. b || have_byte ys a) (front.members a) ∙ or_all (holds s a) (have_byte xs a) (have_byte ys a) ∙ ap (λ b. holds s a || b) (sym (have_both xs ys a));
  bounded = back.bounded;
}

one_with : {s t : ByteSet} (x : Bytes) → IsWith s x t → AreWith s (x ∷ []) t
one_with {s = s} x one = record { members = λ a. one.members a ∙ ap (λ b. holds s a || b) (or_false (has_byte x a)); bounded = one.bounded }

-- the bytes at which the check of an area looks, one range after the other
pub looked_with : {s t u v w : ByteSet} (l : Lookups) (a b : ℕ) → a ≡ l.area + RSEQ_CS → b ≡ l.area + FLAGS → IsWith s (bytes a 8) t → IsWith t (bytes b 4) u
    → AreWith u (bytes_if l.descriptor DESCRIPTOR_SIZE) v → AreWith v (bytes_if l.signature 4) w → AreWith s (bytes_looked_at l) w
looked_with {s = s} {w = w} l a b pointer flags one two three four =
    let rest = bytes_if l.descriptor DESCRIPTOR_SIZE ++ bytes_if l.signature 4 in
    let P : ℕ → Type 0 = λ n. AreWith s (bytes n 8 ∷ bytes b 4 ∷ rest) w in
    let Q : ℕ → Type 0 = λ n. AreWith s (bytes (l.area + RSEQ_CS) 8 ∷ bytes n 4 ∷ rest) w in
    let last = with_both (bytes_if l.descriptor DESCRIPTOR_SIZE) (bytes_if l.signature 4) three four in
    let whole = with_both (bytes a 8 ∷ []) (bytes b 4 ∷ rest) (one_with (bytes a 8) one) (with_both (bytes b 4 ∷ []) rest (one_with (bytes b 4) two) last) in
    subst Q flags (subst P pointer whole)

grown : {s t : ByteSet} (xs : List Bytes) → AreWith s xs t → (a : ℕ) → holds s a ≡ true → holds t a ≡ true
grown {s = s} xs with a there = with.members a ∙ or_left (holds s a) (have_byte xs a) there

-- the bytes at which an area is looked at come first
around : (a b c : Bool) → (a || (b || c)) ≡ ((b || a) || c)
around true true c = refl
around true false c = refl
around false true c = refl
around false false c = refl

looked_first : (looked reads held : List Bytes) (a : ℕ) → have_byte (looked ++ (reads ++ held)) a ≡ have_byte ((reads ++ looked) ++ held) a
looked_first looked reads held a =
    have_both looked (reads ++ held) a ∙ ap (λ b. have_byte looked a || b) (have_both reads held a)
    ∙ around (have_byte looked a) (have_byte reads a) (have_byte held a)
    ∙ ap (λ b. b || have_byte held a) (sym (have_both reads looked a)) ∙ sym (have_both (reads ++ looked) held a)

-- an event: the bytes at which its thread's area is looked at, those that its access reads, those that its hart holds, those it writes
touched_by_event : (s t u : Touched) (y : LogEvent) (looked : Option Lookups) (between : ByteSet) (reads held : List Bytes)
    → HasLookedAt s looked t → AreWith t.reads reads between → AreWith between held u.reads → AreWith t.writes (writes_of y) u.writes → u.last ≡ t.last
    → reads_of y ≡ (reads ++ option_map_or bytes_looked_at looked []) ++ held → HasTouched s y u
touched_by_event s t u y looked between reads held one two three four last is =
    let looked_bytes = option_map_or bytes_looked_at looked [] in
    let whole = with_both looked_bytes (reads ++ held) one.reads (with_both reads held two three) in
    record {
      reads = record {
        members = λ a. whole.members a ∙ ap (λ b. holds s.reads a || b) (looked_first looked_bytes reads held a ∙ ap (λ l. have_byte l a) (sym is));
        bounded = whole.bounded;
      };
      writes = let P : ByteSet → Type 0 = λ w. AreWith w (writes_of y) u.writes in subst P one.writes four;
      last = λ a there. grown held three a (grown reads two a (one.last a (ap (λ o. have_byte (option_map_or bytes_looked_at o []) a) (sym last) ∙ there)));
    }

-- of which the parts were read by their numbers
pub touched_by_mark : (s t u : Touched) (y : LogEvent) (a b : Access) (looked its_looked : Option Lookups) (between : ByteSet) (held its_held : List Bytes)
    → HasLookedAt s looked t → AreWith t.reads (bytes_in a.reads) between → AreWith between held u.reads → AreWith t.writes (bytes_in a.writes) u.writes → u.last ≡ t.last
    → a ≡ b → looked ≡ its_looked → held ≡ its_held
    → reads_of y ≡ (bytes_in b.reads ++ option_map_or bytes_looked_at its_looked []) ++ its_held → writes_of y ≡ bytes_in b.writes → HasTouched s y u
touched_by_mark s t u y a b looked its_looked between held its_held one two three four last access looks holds reads writes =
    touched_by_event s t u y looked between (bytes_in a.reads) held one two three
    (let P : List Bytes → Type 0 = λ l. AreWith t.writes l u.writes in subst P (ap (λ (z : Access). bytes_in z.writes) access ∙ sym writes) four)
    last
    (reads
    ∙ ap (λ (z : Access). (bytes_in z.reads ++ option_map_or bytes_looked_at its_looked []) ++ its_held) (sym access)
    ∙ ap (λ o. (bytes_in a.reads ++ option_map_or bytes_looked_at o []) ++ its_held) (sym looks)
    ∙ ap (λ l. (bytes_in a.reads ++ option_map_or bytes_looked_at looked []) ++ l) (sym holds))

pub ready_of : (xs : List LogEvent) (t : Touched) → IsTouched xs t → IsReady t
ready_of xs t touched = record { reads = touched.reads.bounded; writes = touched.writes.bounded; last = touched.last }

flat_more : (f : LogEvent → List Bytes) (xs : List LogEvent) (y : LogEvent) (a : ℕ) → have_byte (flat_map f (xs ++ y ∷ [])) a ≡ (have_byte (flat_map f xs) a || have_byte (f y) a)
flat_more f [] y a = have_both (f y) [] a ∙ sym (or_false (have_byte (f y) a))
flat_more f (x ∷ xs) y a =
    have_both (f x) (flat_map f (xs ++ y ∷ [])) a ∙ ap (λ b. have_byte (f x) a || b) (flat_more f xs y a)
    ∙ sym (or_all (have_byte (f x) a) (have_byte (flat_map f xs) a) (have_byte (f y) a))
    ∙ ap (λ b. b || have_byte (f y) a) (sym (have_both (f x) (flat_map f xs) a))

touched_more : (xs : List LogEvent) (s : Touched) (y : LogEvent) (t : Touched) → IsTouched xs s → HasTouched s y t → IsTouched (xs ++ y ∷ []) t
touched_more xs s y t so_far one = record {
  reads = record {
    members = λ a. one.reads.members a ∙ ap (λ b. b || have_byte (reads_of y) a) (so_far.reads.members a) ∙ sym (flat_more reads_of xs y a);
    bounded = one.reads.bounded;
  };
  writes = record {
    members = λ a. one.writes.members a ∙ ap (λ b. b || have_byte (writes_of y) a) (so_far.writes.members a) ∙ sym (flat_more writes_of xs y a);
    bounded = one.writes.bounded;
  };
  last = one.last;
}

-- the events of a hart, with an event more
owns_more : (d : Details) (h : ℕ) (span : List Mark) (i : ℕ) (m : Mark) → i < length span
    → own_steps h (steps_of d (take (i + 1) span))
    ≡ own_steps h (steps_of d (take i span)) ++ cond (is_of h (entry_marked (get_or span i m))) (step_of d (get_or span i m) ∷ []) []
owns_more d h span i m within =
    ap (λ l. own_steps h (steps_of d l)) (take_more span i m within)
    ∙ ap (own_steps h) (map-append (step_of d) (take i span) (get_or span i m ∷ []))
    ∙ filter_append (λ x. is_of h x.entry) (steps_of d (take i span)) (step_of d (get_or span i m) ∷ [])

owns_with : (d : Details) (h : ℕ) (span : List Mark) (i : ℕ) (m : Mark) → i < length span → is_of h (entry_marked (get_or span i m)) ≡ true
    → map event_of (own_steps h (steps_of d (take (i + 1) span))) ≡ map event_of (own_steps h (steps_of d (take i span))) ++ event_of (step_of d (get_or span i m)) ∷ []
owns_with d h span i m within own =
    ap (map event_of) (owns_more d h span i m within ∙ ap (λ b. own_steps h (steps_of d (take i span)) ++ cond b (step_of d (get_or span i m) ∷ []) []) own)
    ∙ map-append event_of (own_steps h (steps_of d (take i span))) (step_of d (get_or span i m) ∷ [])

owns_without : (d : Details) (h : ℕ) (span : List Mark) (i : ℕ) (m : Mark) → i < length span → is_of h (entry_marked (get_or span i m)) ≡ false
    → map event_of (own_steps h (steps_of d (take (i + 1) span))) ≡ map event_of (own_steps h (steps_of d (take i span)))
owns_without d h span i m within other =
    ap (map event_of)
    (owns_more d h span i m within ∙ ap (λ b. own_steps h (steps_of d (take i span)) ++ cond b (step_of d (get_or span i m) ∷ []) []) other
    ∙ append-nil (own_steps h (steps_of d (take i span))))

-- what they touch, with an event more
pub touched_own : (d : Details) (h : ℕ) (span : List Mark) (i : ℕ) (m : Mark) (s t : Touched) → IsTouched (map event_of (own_steps h (steps_of d (take i span)))) s
    → i < length span → is_of h (entry_marked (get_or span i m)) ≡ true → HasTouched s (event_of (step_of d (get_or span i m))) t
    → IsTouched (map event_of (own_steps h (steps_of d (take (i + 1) span)))) t
touched_own d h span i m s t so_far within own one =
    subst (λ l. IsTouched l t) (sym (owns_with d h span i m within own)) (touched_more (map event_of (own_steps h (steps_of d (take i span)))) s (event_of (step_of d (get_or span i m))) t so_far one)

pub touched_other : (d : Details) (h : ℕ) (span : List Mark) (i : ℕ) (m : Mark) (s : Touched) → IsTouched (map event_of (own_steps h (steps_of d (take i span)))) s
    → i < length span → is_of h (entry_marked (get_or span i m)) ≡ false → IsTouched (map event_of (own_steps h (steps_of d (take (i + 1) span)))) s
touched_other d h span i m s so_far within other = subst (λ l. IsTouched l s) (sym (owns_without d h span i m within other)) so_far

own_events : (h : ℕ) (span : List Step) → map event_of (own_steps h span) ≡ own_of h (map event_of span)
own_events h [] = refl
own_events h (x ∷ xs) = go (is_of h x.entry) (own_events h xs)
  where
    go : (b : Bool) → map event_of (own_steps h xs) ≡ own_of h (map event_of xs)
        → map event_of (cond b (x ∷ own_steps h xs) (own_steps h xs)) ≡ cond b (event_of x ∷ own_of h (map event_of xs)) (own_of h (map event_of xs))
    go true rest = ap (λ l. event_of x ∷ l) rest
    go false rest = rest

-- an event clashes with what they touch where it clashes with one of them
clashes_is : (xs : List LogEvent) (t : Touched) → IsTouched xs t → (y : LogEvent) → clashes_in t y ≡ list_any (λ x. clash x y) xs
clashes_is xs t touched y =
    ap (λ b. b || (any_in (holds t.writes) (writes_of y) || any_in (holds t.writes) (reads_of y))) (any_in_is (holds t.reads) (flat_map reads_of xs) (writes_of y) touched.reads.members)
    ∙ ap (λ b. overlap_any (flat_map reads_of xs) (writes_of y) || (b || any_in (holds t.writes) (reads_of y))) (any_in_is (holds t.writes) (flat_map writes_of xs) (writes_of y) touched.writes.members)
    ∙ ap (λ b. overlap_any (flat_map reads_of xs) (writes_of y) || (overlap_any (flat_map writes_of xs) (writes_of y) || b)) (any_in_is (holds t.writes) (flat_map writes_of xs) (reads_of y) touched.writes.members)
    ∙ clashes_with_one xs y

any_or : {A : Type 0} (p q : A → Bool) (xs : List A) → list_any (λ x. p x || q x) xs ≡ (list_any p xs || list_any q xs)
any_or p q [] = refl
any_or p q (x ∷ xs) = go (p x) (q x) (any_or p q xs)
  where
    go : (a b : Bool) → list_any (λ y. p y || q y) xs ≡ (list_any p xs || list_any q xs)
        → ((a || b) || list_any (λ y. p y || q y) xs) ≡ ((a || list_any p xs) || (b || list_any q xs))
    go true b rest = refl
    go false true rest = sym (or_true (list_any p xs))
    go false false rest = rest

none_not : {A : Type 0} (p : A → Bool) (xs : List A) → not (list_any (λ x. not (p x)) xs) ≡ list_all p xs
none_not p [] = refl
none_not p (x ∷ xs) = go (p x) (none_not p xs)
  where
    go : (a : Bool) → not (list_any (λ y. not (p y)) xs) ≡ list_all p xs → not (not a || list_any (λ y. not (p y)) xs) ≡ (a && list_all p xs)
    go true rest = rest
    go false rest = refl

not_or : (a b : Bool) → not (a || b) ≡ (not a && not b)
not_or true b = refl
not_or false b = refl

-- so a span is undisturbed where all events are plain, and none of another hart clashes with what its own touch
pub undisturbed_by : (h : ℕ) (span : List Step) (t : Touched) → IsTouched (map event_of (own_steps h span)) t
    → not (list_any (disturbs t h) (map event_of span)) ≡ is_undisturbed h (map event_of span)
undisturbed_by h span t touched =
    let all = map event_of span in
    ap not (any_or (λ y. not y.facts.plain) (λ y. not (is_own h y) && clashes_in t y) all)
    ∙ not_or (list_any (λ y. not y.facts.plain) all) (list_any (λ y. not (is_own h y) && clashes_in t y) all)
    ∙ ap (λ b. b && not (list_any (λ y. not (is_own h y) && clashes_in t y) all)) (none_not (λ y. y.facts.plain) all)
    ∙ ap (λ p. list_all (λ y. y.facts.plain) all && not (list_any p all))
    (fun_ext (λ y. ap (λ b. not (is_own h y) && b) (clashes_is (map event_of (own_steps h span)) t touched y ∙ ap (list_any (λ x. clash x y)) (own_events h span))))
    ∙ sym (undisturbed_is h all)

-- an area at which was looked last
pub looked_again : (t : Touched) (looked : Option Lookups) → IsReady t → t.last ≡ looked → HasLookedAt t looked t
looked_again t looked ready is = record {
  reads = with_again t.reads (option_map_or bytes_looked_at looked []) ready.reads (λ a there. ready.last a (ap (λ o. have_byte (option_map_or bytes_looked_at o []) a) is ∙ there));
  writes = refl;
  last = ready.last;
}
