-- Two lists of bytes overlap where a byte is in both; and so an event clashes with one of several where it touches their bytes.
use Rattle.std.proofs.Common.{◌≡◌, ℕ, zero, suc, ◌+◌, ◌<◌, ◌≤◌, List, [], ◌∷◌, ◌++◌, filter, length, refl, sym, ap, ◌∙◌, arith, Bool, true, false, not, cond, ltb, leb, ◌&&◌, ◌||◌, inl, inr}
use Rattle.std.proofs.Math.Path.{fun_ext}
use Rattle.std.specs.HashSet.{contains}
use Rattle.std.specs.Prelude.{nat_eq}
use Rattle.std.specs.List.{flat_map, list_all, list_any, range_with_len}
use Rattle.std.proofs.lemmas.Bool.Decides.{nat_tests}
use Rattle.std.proofs.lemmas.List.Folds.{list_any-append}
use Rattle.rv_inst.specs.Accesses.{Bytes, bytes}
use Rattle.block_model.specs.Footprints.{has_byte, have_byte, overlap, overlap_any}
use Rattle.log_gather.specs.ByteSets.{IsBounded, IsWith, any_byte, any_in, covers, has_each, holds, in_extent, meets}
use Rattle.log_gather.specs.declared.byte_sets.ByteSet.{ByteSet}
use Rattle.log_gather.specs.declared.byte_sets.Extent.{Extent}
use Rattle.log_gather.specs.declared.byte_sets.TheConstants.{MOST_EXTENTS}
use Rattle.std.proofs.Math.Bool.{or-true}
use Rattle.std.proofs.lemmas.Bool.{and_cases, and_from, and_parts, false_from_ne_true, false≢true, le-leb, leb-true, lt-ltb, ltb-false, ltb-true, or_cases, or_left}
use Rattle.log_gather.specs.LogEvents.{LogEvent, clash, is_own, is_undisturbed, others_of, own_of, reads_of, writes_of}

-- TESTS OF LISTS

any_or : {A : Type 0} (p q : A → Bool) (xs : List A) → list_any (λ x. p x || q x) xs ≡ (list_any p xs || list_any q xs)
any_or p q [] = refl
any_or p q (x ∷ xs) = ap (λ b. (p x || q x) || b) (any_or p q xs) ∙ go (p x) (q x) (list_any p xs) (list_any q xs)
  where
    go : (a b c d : Bool) → ((a || b) || (c || d)) ≡ ((a || c) || (b || d))
    go true b c d = refl
    go false true true d = refl
    go false true false d = refl
    go false false c d = refl

any_none : {A : Type 0} (xs : List A) → list_any (λ x. false) xs ≡ false
any_none [] = refl
any_none (x ∷ xs) = any_none xs

-- in either order
any_any : {A B : Type 0} (r : A → B → Bool) (xs : List A) (ys : List B) → list_any (λ x. list_any (r x) ys) xs ≡ list_any (λ y. list_any (λ x. r x y) xs) ys
any_any r [] ys = sym (any_none ys)
any_any r (x ∷ xs) ys = ap (λ b. list_any (r x) ys || b) (any_any r xs ys) ∙ sym (any_or (r x) (λ y. list_any (λ x. r x y) xs) ys)

all_not : {A : Type 0} (p : A → Bool) (xs : List A) → list_all (λ x. not (p x)) xs ≡ not (list_any p xs)
all_not p [] = refl
all_not p (x ∷ xs) = ap (λ b. not (p x) && b) (all_not p xs) ∙ go (p x)
  where
    go : (b : Bool) → (not b && not (list_any p xs)) ≡ not (b || list_any p xs)
    go true = refl
    go false = refl

any_filter : {A : Type 0} (p q : A → Bool) (xs : List A) → list_any p (filter q xs) ≡ list_any (λ x. q x && p x) xs
any_filter p q [] = refl
any_filter p q (x ∷ xs) = go (q x) (any_filter p q xs)
  where
    go : (b : Bool) → list_any p (filter q xs) ≡ list_any (λ x. q x && p x) xs → list_any p (cond b (x ∷ filter q xs) (filter q xs)) ≡ ((b && p x) || list_any (λ x. q x && p x) xs)
    go true rest = ap (λ b. p x || b) rest
    go false rest = rest

-- BYTES

one_byte_more : (at count a n : ℕ) → ((leb at a && ltb a (at + count)) || (ltb 0 count && (ltb 0 n && (ltb (a + 1) (at + count) && ltb at (a + 1 + n))))) ≡ (ltb 0 count && (ltb 0 (suc n) && (ltb a (at + count) && ltb at (a + suc n))))
one_byte_more at count a n = grind (arith, nat_tests)

no_byte : (b : Bool) → false ≡ (b && false)
no_byte true = refl
no_byte false = refl

byte_of : (w : Bytes) (at start n : ℕ) → list_any (λ k. has_byte w (at + k)) (range_with_len start n) ≡ overlap w (bytes (at + start) n)
byte_of w at start zero = no_byte (ltb 0 w.count)
byte_of w at start (suc n) =
    let next : at + (start + 1) ≡ at + start + 1 = omega arith in
    ap (λ b. has_byte w (at + start) || b) (byte_of w at (start + 1) n ∙ ap (λ a. overlap w (bytes a n)) next) ∙ one_byte_more w.at w.count (at + start) n

any_byte_of : (ws : List Bytes) (y : Bytes) → any_byte (have_byte ws) y ≡ list_any (λ w. overlap w y) ws
any_byte_of [] y = any_none (range_with_len 0 y.count)
any_byte_of (w ∷ ws) y =
    let start : y.at + 0 ≡ y.at = omega arith in
    any_or (λ k. has_byte w (y.at + k)) (λ k. have_byte ws (y.at + k)) (range_with_len 0 y.count)
    ∙ ap (λ b. b || any_byte (have_byte ws) y) (byte_of w y.at 0 y.count ∙ ap (λ a. overlap w (bytes a y.count)) start)
    ∙ ap (λ b. overlap w y || b) (any_byte_of ws y)

pub any_in_is : (has : ℕ → Bool) (ws ys : List Bytes) → ((a : ℕ) → has a ≡ have_byte ws a) → any_in has ys ≡ overlap_any ws ys
any_in_is has ws ys same =
    ap (λ f. any_in f ys) (fun_ext same)
    ∙ ap (λ p. list_any p ys) (fun_ext (λ y. any_byte_of ws y))
    ∙ any_any (λ y w. overlap w y) ys ws

-- CLASHES

and_swap : (a b : Bool) → (a && b) ≡ (b && a)
and_swap true true = refl
and_swap true false = refl
and_swap false true = refl
and_swap false false = refl

and_over : (a b c : Bool) → (a && (b && c)) ≡ (b && (a && c))
and_over true b c = refl
and_over false true c = refl
and_over false false c = refl

overlap_both : (x y : Bytes) → overlap x y ≡ overlap y x
overlap_both x y =
    and_over (ltb 0 x.count) (ltb 0 y.count) _ ∙ ap (λ b. ltb 0 y.count && (ltb 0 x.count && b)) (and_swap (ltb y.at (x.at + x.count)) (ltb x.at (y.at + y.count)))

overlap_any_both : (xs ys : List Bytes) → overlap_any xs ys ≡ overlap_any ys xs
overlap_any_both xs ys = any_any overlap xs ys ∙ ap (λ (p : Bytes → Bytes → Bool). list_any (λ y. list_any (p y) xs) ys) (fun_ext (λ y. fun_ext (λ x. overlap_both x y)))

overlap_of : {A : Type 0} (f : A → List Bytes) (xs : List A) (ys : List Bytes) → overlap_any (flat_map f xs) ys ≡ list_any (λ x. overlap_any (f x) ys) xs
overlap_of f [] ys = refl
overlap_of f (x ∷ xs) ys = list_any-append (λ w. list_any (overlap w) ys) (f x) (flat_map f xs) ∙ ap (λ b. overlap_any (f x) ys || b) (overlap_of f xs ys)

or_around : (a b c : Bool) → (a || (b || c)) ≡ (c || (b || a))
or_around true true true = refl
or_around true true false = refl
or_around true false true = refl
or_around true false false = refl
or_around false true true = refl
or_around false true false = refl
or_around false false true = refl
or_around false false false = refl

-- an event clashes with one of several, where it writes what they read or write, or reads what they write
pub clashes_with_one : (own : List LogEvent) (y : LogEvent)
    → (overlap_any (flat_map reads_of own) (writes_of y) || (overlap_any (flat_map writes_of own) (writes_of y) || overlap_any (flat_map writes_of own) (reads_of y)))
    ≡ list_any (λ x. clash x y) own
clashes_with_one own y =
    let r : LogEvent → Bool = λ x. overlap_any (writes_of y) (reads_of x) in
    let w : LogEvent → Bool = λ x. overlap_any (writes_of x) (writes_of y) in
    let a : LogEvent → Bool = λ x. overlap_any (writes_of x) (reads_of y) in
    ap (λ b. b || (overlap_any (flat_map writes_of own) (writes_of y) || overlap_any (flat_map writes_of own) (reads_of y)))
    (overlap_of reads_of own (writes_of y) ∙ ap (λ p. list_any p own) (fun_ext (λ x. overlap_any_both (reads_of x) (writes_of y))))
    ∙ ap (λ b. list_any r own || (b || overlap_any (flat_map writes_of own) (reads_of y))) (overlap_of writes_of own (writes_of y))
    ∙ ap (λ b. list_any r own || (list_any w own || b)) (overlap_of writes_of own (reads_of y))
    ∙ or_around (list_any r own) (list_any w own) (list_any a own)
    ∙ ap (λ b. list_any a own || b) (sym (any_or w r own))
    ∙ sym (any_or a (λ x. w x || r x) own)

-- so a span of plain events is undisturbed where none of another hart clashes
pub undisturbed_is : (h : ℕ) (span : List LogEvent)
    → is_undisturbed h span ≡ (list_all (λ x. x.facts.plain) span && not (list_any (λ y. not (is_own h y) && list_any (λ x. clash x y) (own_of h span)) span))
undisturbed_is h span =
    let own = own_of h span in
    let others = others_of h span in
    ap (λ b. list_all (λ x. x.facts.plain) span && b)
    (ap (λ p. list_all p own) (fun_ext (λ x. all_not (clash x) others))
    ∙ all_not (λ x. list_any (clash x) others) own
    ∙ ap not (any_any clash own others ∙ any_filter (λ y. list_any (λ x. clash x y) own) (λ y. not (is_own h y)) span))

-- A SET

none_at : (p : ℕ → Bool) (start n : ℕ) → ((k : ℕ) → k < start + n → p k ≡ false) → list_any p (range_with_len start n) ≡ false
none_at p start zero none = refl
none_at p start (suc n) none =
    ap (λ b. b || list_any p (range_with_len (start + 1) n)) (none start (omega arith)) ∙ none_at p (start + 1) n (λ k below. none k (omega arith))

-- no byte that is out of its bounds is in it
pub none_outside : (s : ByteSet) (at count : ℕ) → IsBounded s → (ltb at s.end && ltb s.lowest (at + count)) ≡ false → false ≡ any_byte (holds s) (bytes at count)
none_outside s at count bounded out =
    sym (none_at (λ k. holds s (at + k)) 0 count (λ k below. false_from_ne_true (holds s (at + k)) (λ there.
    let w = bounded.within (at + k) there in
    elim (and_cases (ltb at s.end) (ltb s.lowest (at + count)) out) [
      | inl past ↦ omega (arith, ltb-false at s.end past, w.1)
      | inr before ↦ omega (arith, ltb-false s.lowest (at + count) before, w.0)
    ])))

-- an extent has one of several bytes where it meets them
none_met : (s e a : ℕ) → false ≡ (ltb s (a + 0) && (ltb a e && (ltb s e && ltb a (a + 0))))
none_met s e a = grind (arith, nat_tests)

one_met_more : (s e a n : ℕ) → ((leb s a && ltb a e) || (ltb s (a + 1 + n) && (ltb (a + 1) e && (ltb s e && ltb (a + 1) (a + 1 + n))))) ≡ (ltb s (a + suc n) && (ltb a e && (ltb s e && ltb a (a + suc n))))
one_met_more s e a n = grind (arith, nat_tests)

met : (x : Extent) (at start n : ℕ) → list_any (λ k. in_extent (at + k) x) (range_with_len start n) ≡ meets (at + start) (at + start + n) x
met x at start zero = none_met x.at x.end (at + start)
met x at start (suc n) =
    let next : at + (start + 1) ≡ at + start + 1 = omega arith in
    ap (λ b. in_extent (at + start) x || b) (met x at (start + 1) n ∙ ap (λ a. meets a (a + n) x) next) ∙ one_met_more x.at x.end (at + start) n

met_any : (xs : List Extent) (at n : ℕ) → list_any (λ k. list_any (in_extent (at + k)) xs) (range_with_len 0 n) ≡ list_any (meets at (at + n)) xs
met_any [] at n = any_none (range_with_len 0 n)
met_any (x ∷ xs) at n =
    let start : at + 0 ≡ at = omega arith in
    any_or (λ k. in_extent (at + k) x) (λ k. list_any (in_extent (at + k)) xs) (range_with_len 0 n)
    ∙ ap (λ b. b || list_any (λ k. list_any (in_extent (at + k)) xs) (range_with_len 0 n)) (met x at 0 n ∙ ap (λ a. meets a (a + n) x) start)
    ∙ ap (λ b. meets at (at + n) x || b) (met_any xs at n)

-- so a set has one of them in an extent, or by itself
any_parted : (s : ByteSet) (at count : ℕ) → any_byte (holds s) (bytes at count) ≡ (list_any (meets at (at + count)) s.extents.items || any_byte (has_each s) (bytes at count))
any_parted s at count =
    any_or (λ k. list_any (in_extent (at + k)) s.extents.items) (λ k. has_each s (at + k)) (range_with_len 0 count)
    ∙ ap (λ b. b || any_byte (has_each s) (bytes at count)) (met_any s.extents.items at count)

pub any_met : (s : ByteSet) (at count : ℕ) → list_any (meets at (at + count)) s.extents.items ≡ true → true ≡ any_byte (holds s) (bytes at count)
any_met s at count is = sym (any_parted s at count ∙ ap (λ b. b || any_byte (has_each s) (bytes at count)) is)

pub none_each : (s : ByteSet) (at count : ℕ) → IsBounded s → list_any (meets at (at + count)) s.extents.items ≡ false → length s.extents.items < MOST_EXTENTS → false ≡ any_byte (holds s) (bytes at count)
none_each s at count bounded is few =
    sym (any_parted s at count ∙ ap (λ b. b || any_byte (has_each s) (bytes at count)) is
    ∙ none_at (λ k. has_each s (at + k)) 0 count (λ k below. bounded.extents_first few (at + k)))

pub any_each : (s : ByteSet) (at count : ℕ) → list_any (meets at (at + count)) s.extents.items ≡ false → any_byte (has_each s) (bytes at count) ≡ any_byte (holds s) (bytes at count)
any_each s at count is = sym (any_parted s at count ∙ ap (λ b. b || any_byte (has_each s) (bytes at count)) is)

-- what is added that is there already
or_there : (b c : Bool) → (c ≡ true → b ≡ true) → b ≡ (b || c)
or_there true c there = refl
or_there false true there = there refl
or_there false false there = refl

in_covering : (s e at end a : ℕ) → (leb s at && leb end e) ≡ true → (leb at a && ltb a end) ≡ true → (leb s a && ltb a e) ≡ true
in_covering s e at end a around inside =
    let p = and_parts (leb s at) (leb end e) around in
    let q = and_parts (leb at a) (ltb a end) inside in
    and_from (leb s a) (ltb a e) (le-leb s a (omega (arith, leb-true s at p.0, leb-true at a q.0))) (lt-ltb a e (omega (arith, ltb-true a end q.1, leb-true end e p.1)))

covered : (xs : List Extent) (at end a : ℕ) → list_any (covers at end) xs ≡ true → (leb at a && ltb a end) ≡ true → list_any (in_extent a) xs ≡ true
covered [] at end a there inside = absurd (false≢true there)
covered (x ∷ xs) at end a there inside = elim (or_cases (covers at end x) (list_any (covers at end) xs) there) [
  | inl here ↦ or_left (in_extent a x) (list_any (in_extent a) xs) (in_covering x.at x.end at end a here inside)
  | inr later ↦ ap (λ b. in_extent a x || b) (covered xs at end a later inside) ∙ or-true (in_extent a x)
]

pub with_covered : (s : ByteSet) (at count : ℕ) → IsBounded s → list_any (covers at (at + count)) s.extents.items ≡ true → IsWith s (bytes at count) s
with_covered s at count bounded there = record {
  members = λ a. or_there (holds s a) (has_byte (bytes at count) a) (λ is. or_left (list_any (in_extent a) s.extents.items) (has_each s a) (covered s.extents.items at (at + count) a there is));
  bounded = bounded;
}

-- and what is added in an extent, or byte by byte
module _ (s t : ByteSet) (at count past : ℕ) (past_is : past ≡ at + count) (bounded : IsBounded s) (low : t.lowest ≤ s.lowest) (low_here : t.lowest ≤ at) (high : s.end ≤ t.end) (high_here : past ≤ t.end) where
  bounded_by : (members : (a : ℕ) → holds t a ≡ (holds s a || has_byte (bytes at count) a)) (a : ℕ) → holds t a ≡ true → (t.lowest ≤ a) × (a < t.end)
  bounded_by members a there = elim (or_cases (holds s a) (has_byte (bytes at count) a) (sym (members a) ∙ there)) [
    | inl old ↦ let w = bounded.within a old in (omega (arith, w.0, low), omega (arith, w.1, high))
    | inr new ↦
        let q = and_parts (leb at a) (ltb a (at + count)) new in
        (omega (arith, leb-true at a q.0, low_here), omega (arith, ltb-true a (at + count) q.1, high_here, past_is))
  ]

  shuffle : (p c h : Bool) → ((p || (h || false)) || c) ≡ ((p || c) || h)
  shuffle true c h = refl
  shuffle false true true = refl
  shuffle false true false = refl
  shuffle false false true = refl
  shuffle false false false = refl

  or_or : (p c h : Bool) → (p || (c || h)) ≡ ((p || c) || h)
  or_or true c h = refl
  or_or false c h = refl

  pub with_pushed : t.extents.items ≡ s.extents.items ++ record { at = at; end = past } ∷ [] → t.bytes ≡ s.bytes → length s.extents.items < MOST_EXTENTS → IsWith s (bytes at count) t
  with_pushed extents same few =
      let members : (a : ℕ) → holds t a ≡ (holds s a || has_byte (bytes at count) a) = λ a.
      ap (λ xs. list_any (in_extent a) xs || has_each t a) (extents ∙ ap (λ p. s.extents.items ++ record { at = at; end = p } ∷ []) past_is)
      ∙ ap (λ b. list_any (in_extent a) (s.extents.items ++ record { at = at; end = at + count } ∷ []) || contains nat_eq b a) same
      ∙ ap (λ b. b || has_each s a) (list_any-append (in_extent a) s.extents.items (record { at = at; end = at + count } ∷ []))
      ∙ shuffle (list_any (in_extent a) s.extents.items) (has_each s a) (has_byte (bytes at count) a) in
      record {
        members = members;
        bounded = record {
          within = bounded_by members;
          extents_first = λ more a. ap (λ b. contains nat_eq b a) same ∙ bounded.extents_first few a;
        };
      }

  pub with_each : ((a : ℕ) → has_each t a ≡ (has_each s a || (leb at a && ltb a past))) → t.extents ≡ s.extents → MOST_EXTENTS ≤ length s.extents.items → IsWith s (bytes at count) t
  with_each each extents many =
      let members : (a : ℕ) → holds t a ≡ (holds s a || has_byte (bytes at count) a) = λ a.
      ap (λ v. list_any (in_extent a) v.items || has_each t a) extents
      ∙ ap (λ b. list_any (in_extent a) s.extents.items || b) (each a ∙ ap (λ p. has_each s a || (leb at a && ltb a p)) past_is)
      ∙ or_or (list_any (in_extent a) s.extents.items) (has_each s a) (has_byte (bytes at count) a) in
      record {
        members = members;
        bounded = record {
          within = bounded_by members;
          extents_first = λ few a. absurd (omega (arith, many, few, ap (λ v. length v.items) extents));
        };
      }
