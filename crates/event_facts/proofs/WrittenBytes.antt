-- In which line a byte was written last, as it is kept by words of 8 bytes.
use Rattle.std.proofs.Common.{◌≡◌, ℕ, ◌+◌, ◌-◌, ◌/◌, ◌%◌, ◌<◌, ◌≤◌, List, length, get_or, set, replicate, refl, sym, ap, ◌∙◌, arith, eqb, leb, ltb, ◌&&◌, ◌||◌, Bool, true, false, cond, Option, Some, unwrap_or, inl, inr, ◌⊎◌, get_or-set_same, get_or-set_other}
use Rattle.std.proofs.lemmas.Bool.{and_from, and_left, and_parts, and_right, cases_eq, cases_lt, eq-eqb, eqb-false, eqb-true, le-leb, le-ltb, leb-true, lt-leb, lt-ltb, ltb-true, ne_eqb, or_cases, or_left, or_right}
use Rattle.std.specs.HashMap.{get}
use Rattle.std.specs.Prelude.{nat_eq}
use Rattle.rv_inst.specs.Accesses.{bytes}
use Rattle.block_model.specs.Footprints.{has_byte}
use Rattle.event_facts.specs.Written.{is_among, is_from_to, line_at, lines_at}
use Rattle.event_facts.specs.declared.written.Written.{Written}

-- WITHIN 8 BYTES

-- none is marked at first
pub none_marked : (from k line old : ℕ) → old ≡ cond (is_from_to from from k) line old
none_marked from k line old = go (cases_lt k from)
  where
    go : (k < from) ⊎ (from ≤ k) → old ≡ cond (is_from_to from from k) line old
    go (inl below) = ap (λ b. cond b line old) (sym (and_left (leb from k) (ltb k from) (lt-leb from k below)))
    go (inr past) = ap (λ b. cond b line old) (sym (and_right (leb from k) (ltb k from) (le-ltb k from past)))

same_below : (j k : ℕ) → (j ≡ k → ⊥) → ltb j k ≡ ltb j (k + 1)
same_below j k other = go (cases_lt j k)
  where
    go : (j < k) ⊎ (k ≤ j) → ltb j k ≡ ltb j (k + 1)
    go (inl below) = lt-ltb j k below ∙ sym (lt-ltb j (k + 1) (omega arith))
    go (inr past) = le-ltb j k past ∙ sym (le-ltb j (k + 1) (omega arith))

-- one more is marked
pub marked_more : (xs : List ℕ) (from k line : ℕ) (old : ℕ → ℕ) → from ≤ k → k < length xs → ((j : ℕ) → get_or xs j 0 ≡ cond (is_from_to from k j) line (old j))
    → (j : ℕ) → get_or (set xs k line) j 0 ≡ cond (is_from_to from (k + 1) j) line (old j)
marked_more xs from k line old order lt was j = go (cases_eq j k)
  where
    go : (j ≡ k) ⊎ (j ≡ k → ⊥) → get_or (set xs k line) j 0 ≡ cond (is_from_to from (k + 1) j) line (old j)
    go (inl same) =
        let test : is_from_to from (k + 1) j ≡ true =
        and_from (leb from j) (ltb j (k + 1)) (le-leb from j (omega arith)) (lt-ltb j (k + 1) (omega arith)) in
        ap (λ i. get_or (set xs k line) i 0) same ∙ get_or-set_same xs k line 0 lt ∙ ap (λ b. cond b line (old j)) (sym test)
    go (inr other) =
        get_or-set_other xs k j line 0 other ∙ was j ∙ ap (λ b. cond (leb from j && b) line (old j)) (same_below j k other)

-- A WORD

-- the lines of one word are marked
pub mark_line : (x y : Written) (word from to line : ℕ) (lines : List ℕ) → ((q : ℕ) → get nat_eq y.words q ≡ cond (eqb word q) (Some lines) (get nat_eq x.words q))
    → ((k : ℕ) → get_or lines k 0 ≡ cond (is_from_to from to k) line (get_or (lines_at x word) k 0))
    → (a : ℕ) → line_at y a ≡ cond (is_among word from to a) line (line_at x a)
mark_line x y word from to line lines updates marks a =
    ap (λ (o : Option (List ℕ)). get_or (unwrap_or o (replicate 8 0)) (a % 8) 0) (updates (a / 8)) ∙ go (eqb word (a / 8)) refl
  where
    go : (b : Bool) → eqb word (a / 8) ≡ b
        → get_or (unwrap_or (cond b (Some lines) (get nat_eq x.words (a / 8))) (replicate 8 0)) (a % 8) 0 ≡ cond (is_among word from to a) line (line_at x a)
    go true is =
        let same = eqb-true word (a / 8) is in
        marks (a % 8)
        ∙ (λ i. cond (is_from_to from to (a % 8)) line (get_or (lines_at x (same i)) (a % 8) 0))
        ∙ ap (λ b. cond (b && is_from_to from to (a % 8)) line (line_at x a)) (sym (eq-eqb (a / 8) word (sym same)))
    go false is =
        ap (λ b. cond (b && is_from_to from to (a % 8)) line (line_at x a)) (sym (ne_eqb (a / 8) word (λ same. eqb-false word (a / 8) is (sym same))))

-- A STORE

same_test : (x y : Bool) → (x ≡ true → y ≡ true) → (y ≡ true → x ≡ true) → x ≡ y
same_test true y there back = sym (there refl)
same_test false true there back = back refl
same_test false false there back = refl

-- its bytes lie in one word
pub in_one_word : (at size a : ℕ) → at % 8 + size ≤ 8 → has_byte (bytes at size) a ≡ is_among (at / 8) (at % 8) (at % 8 + size) a
in_one_word at size a fits = same_test (has_byte (bytes at size) a) (is_among (at / 8) (at % 8) (at % 8 + size) a) there back
  where
    there : has_byte (bytes at size) a ≡ true → is_among (at / 8) (at % 8) (at % 8 + size) a ≡ true
    there is =
        let parts = and_parts (leb at a) (ltb a (at + size)) is in
        let low = leb-true at a parts.0 in
        let high = ltb-true a (at + size) parts.1 in
        and_from (eqb (a / 8) (at / 8)) (is_from_to (at % 8) (at % 8 + size) (a % 8)) (eq-eqb (a / 8) (at / 8) (omega arith))
        (and_from (leb (at % 8) (a % 8)) (ltb (a % 8) (at % 8 + size)) (le-leb (at % 8) (a % 8) (omega arith)) (lt-ltb (a % 8) (at % 8 + size) (omega arith)))

    back : is_among (at / 8) (at % 8) (at % 8 + size) a ≡ true → has_byte (bytes at size) a ≡ true
    back is =
        let parts = and_parts (eqb (a / 8) (at / 8)) (is_from_to (at % 8) (at % 8 + size) (a % 8)) is in
        let within = and_parts (leb (at % 8) (a % 8)) (ltb (a % 8) (at % 8 + size)) parts.1 in
        let same = eqb-true (a / 8) (at / 8) parts.0 in
        let low = leb-true (at % 8) (a % 8) within.0 in
        let high = ltb-true (a % 8) (at % 8 + size) within.1 in
        and_from (leb at a) (ltb a (at + size)) (le-leb at a (omega arith)) (lt-ltb a (at + size) (omega arith))

-- or in two
in_either : (at size a : ℕ) → 8 < at % 8 + size → size ≤ 8
    → has_byte (bytes at size) a ≡ (is_among (at / 8 + 1) 0 (at % 8 + size - 8) a || is_among (at / 8) (at % 8) 8 a)
in_either at size a past most =
    same_test (has_byte (bytes at size) a) (is_among (at / 8 + 1) 0 (at % 8 + size - 8) a || is_among (at / 8) (at % 8) 8 a) there (λ is. back (or_cases _ _ is))
  where
    by_word : at ≤ a → a < at + size → (a / 8 < at / 8 + 1) ⊎ (at / 8 + 1 ≤ a / 8)
        → (is_among (at / 8 + 1) 0 (at % 8 + size - 8) a || is_among (at / 8) (at % 8) 8 a) ≡ true
    by_word low high (inl first) =
        or_right (is_among (at / 8 + 1) 0 (at % 8 + size - 8) a) (is_among (at / 8) (at % 8) 8 a)
        (and_from (eqb (a / 8) (at / 8)) (is_from_to (at % 8) 8 (a % 8)) (eq-eqb (a / 8) (at / 8) (omega arith))
        (and_from (leb (at % 8) (a % 8)) (ltb (a % 8) 8) (le-leb (at % 8) (a % 8) (omega arith)) (lt-ltb (a % 8) 8 (omega arith))))
    by_word low high (inr second) =
        or_left (is_among (at / 8 + 1) 0 (at % 8 + size - 8) a) (is_among (at / 8) (at % 8) 8 a)
        (and_from (eqb (a / 8) (at / 8 + 1)) (is_from_to 0 (at % 8 + size - 8) (a % 8)) (eq-eqb (a / 8) (at / 8 + 1) (omega arith))
        (and_from (leb 0 (a % 8)) (ltb (a % 8) (at % 8 + size - 8)) (le-leb 0 (a % 8) (omega arith)) (lt-ltb (a % 8) (at % 8 + size - 8) (omega arith))))

    there : has_byte (bytes at size) a ≡ true → (is_among (at / 8 + 1) 0 (at % 8 + size - 8) a || is_among (at / 8) (at % 8) 8 a) ≡ true
    there is =
        let parts = and_parts (leb at a) (ltb a (at + size)) is in
        by_word (leb-true at a parts.0) (ltb-true a (at + size) parts.1) (cases_lt (a / 8) (at / 8 + 1))

    back : (is_among (at / 8 + 1) 0 (at % 8 + size - 8) a ≡ true) ⊎ (is_among (at / 8) (at % 8) 8 a ≡ true) → has_byte (bytes at size) a ≡ true
    back (inl is) =
        let parts = and_parts (eqb (a / 8) (at / 8 + 1)) (is_from_to 0 (at % 8 + size - 8) (a % 8)) is in
        let within = and_parts (leb 0 (a % 8)) (ltb (a % 8) (at % 8 + size - 8)) parts.1 in
        let same = eqb-true (a / 8) (at / 8 + 1) parts.0 in
        let high = ltb-true (a % 8) (at % 8 + size - 8) within.1 in
        and_from (leb at a) (ltb a (at + size)) (le-leb at a (omega arith)) (lt-ltb a (at + size) (omega arith))
    back (inr is) =
        let parts = and_parts (eqb (a / 8) (at / 8)) (is_from_to (at % 8) 8 (a % 8)) is in
        let within = and_parts (leb (at % 8) (a % 8)) (ltb (a % 8) 8) parts.1 in
        let same = eqb-true (a / 8) (at / 8) parts.0 in
        let low = leb-true (at % 8) (a % 8) within.0 in
        and_from (leb at a) (ltb a (at + size)) (le-leb at a (omega arith)) (lt-ltb a (at + size) (omega arith))

cond_or : (x y : Bool) (line old : ℕ) → cond x line (cond y line old) ≡ cond (x || y) line old
cond_or true y line old = refl
cond_or false y line old = refl

pub in_two_words : (at size a line old : ℕ) → 8 < at % 8 + size → size ≤ 8
    → cond (is_among (at / 8 + 1) 0 (at % 8 + size - 8) a) line (cond (is_among (at / 8) (at % 8) 8 a) line old) ≡ cond (has_byte (bytes at size) a) line old
in_two_words at size a line old past most =
    cond_or (is_among (at / 8 + 1) 0 (at % 8 + size - 8) a) (is_among (at / 8) (at % 8) 8 a) line old
    ∙ ap (λ b. cond b line old) (sym (in_either at size a past most))
