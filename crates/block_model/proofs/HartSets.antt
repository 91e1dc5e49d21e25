-- Sets of harts: what is in one with a hart more, and in one without it; that something is in each that isn't 0; and how code says
-- them.
use Rattle.block_model.proofs.Common.{◌≡◌, ◌≢◌, ℕ, suc, zero, ◌+◌, ◌-◌, ◌*◌, ◌/◌, ◌%◌, ◌^◌, ◌<◌, ◌≤◌, max, min, Bool, true, false, eqb, inl, inr, refl, sym, ap, ◌∙◌, arith, cases_eq, cases_lt, cond_both, eqb-false, eqb-true, has_hart, with_hart, without_hart}
use Rattle.std.specs.Int.{bit_at, bit_not, w8}
use Rattle.std.specs.Int.Bits.{bit_and, bit_or, bit_xor, or_add_and}
use Rattle.std.proofs.lemmas.Nat.Bits.{and_pow, bit_at-lt, bit_at-pow_other, bit_at-pow_same, bit_at-suc, bit_at-zero, bit_at_above, bit_at_and, bit_at_clear_other, bit_at_clear_same, bit_at_lowest, bit_at_or, bit_at_set_other, bit_at_set_same, bit_at_xor, same_from_bits}

-- the bit of a hart
bit_in : (set h : ℕ) → has_hart set h ≡ true → bit_at set h ≡ 1
bit_in set h is = eqb-true (bit_at set h) 1 is

bit_out : (set h : ℕ) → has_hart set h ≡ false → bit_at set h ≡ 0
bit_out set h isnt =
    let not_one = eqb-false (bit_at set h) 1 isnt in
    let low = bit_at-lt set h in
    omega arith

-- a set that a hart isn't in, and the power of its bit
sum_is : (set h : ℕ) → has_hart set h ≡ false → bit_or set (2 ^ h) ≡ set + 2 ^ h
sum_is set h isnt =
    let none : 0 * 2 ^ h ≡ 0 = omega arith in
    let both : bit_and set (2 ^ h) ≡ 0 = and_pow set h ∙ ap (λ b. b * 2 ^ h) (bit_out set h isnt) ∙ none in
    let all = or_add_and set (2 ^ h) in
    omega arith

sum_itself : (set h : ℕ) → has_hart set h ≡ false → bit_at (set + 2 ^ h) h ≡ 1
sum_itself set h isnt =
    ap (λ n. bit_at n h) (sym (sum_is set h isnt)) ∙ bit_at_or set (2 ^ h) h
    ∙ ap (λ b. max b (bit_at (2 ^ h) h)) (bit_out set h isnt) ∙ ap (max 0) (bit_at-pow_same h)

max_none : (n : ℕ) → max n 0 ≡ n
max_none n = omega arith

min_none : (n : ℕ) → min 0 n ≡ 0
min_none n = omega arith

sum_other : (set h k : ℕ) → has_hart set h ≡ false → k ≢ h → bit_at (set + 2 ^ h) k ≡ bit_at set k
sum_other set h k isnt ne =
    ap (λ n. bit_at n k) (sym (sum_is set h isnt)) ∙ bit_at_or set (2 ^ h) k
    ∙ ap (max (bit_at set k)) (bit_at-pow_other h k ne) ∙ max_none (bit_at set k)

-- a set with a hart more
pub with_hart-itself : (h set : ℕ) → has_hart (with_hart h set) h ≡ true
with_hart-itself h set =
    cond_both (has_hart set h) set (set + 2 ^ h) (λ n. has_hart n h ≡ true) (λ is. is) (λ is. ap (λ b. eqb b 1) (sum_itself set h is))

pub with_hart-other : (h set k : ℕ) → k ≢ h → has_hart (with_hart h set) k ≡ has_hart set k
with_hart-other h set k ne =
    cond_both (has_hart set h) set (set + 2 ^ h) (λ n. has_hart n k ≡ has_hart set k) (λ is. refl)
    (λ is. ap (λ b. eqb b 1) (sum_other set h k is ne))

-- what is in a set is in it with a hart more
pub with_hart-keeps : (h set k : ℕ) → has_hart set k ≡ true → has_hart (with_hart h set) k ≡ true
with_hart-keeps h set k is = elim (cases_eq k h) [
  | inl same ↦ ap (λ j. has_hart (with_hart h set) j) same ∙ with_hart-itself h set
  | inr ne ↦ with_hart-other h set k ne ∙ is
]

-- a set that has a hart isn't 0
pub some_in : (set h : ℕ) → has_hart set h ≡ true → set ≢ 0
some_in set h is none =
    let one = bit_in set h is in
    let no = ap (λ n. bit_at n h) none ∙ bit_at-zero h in
    omega arith

pub none_in : (h : ℕ) → has_hart 0 h ≡ false
none_in h = ap (λ b. eqb b 1) (bit_at-zero h)

-- a set without one of its harts
abbrev rest : ℕ → ℕ → ℕ
rest h set = bit_xor set (2 ^ h)

rest_itself : (h set : ℕ) → has_hart set h ≡ true → bit_at (rest h set) h ≡ 0
rest_itself h set is =
    let own = bit_in set h is in
    let power = bit_at-pow_same h in
    bit_at_xor set (2 ^ h) h ∙ ap (λ b. (b + bit_at (2 ^ h) h) % 2) own ∙ ap (λ b. (1 + b) % 2) power

rest_other : (h set k : ℕ) → k ≢ h → bit_at (rest h set) k ≡ bit_at set k
rest_other h set k ne =
    let low = bit_at-lt set k in
    bit_at_xor set (2 ^ h) k ∙ ap (λ b. (bit_at set k + b) % 2) (bit_at-pow_other h k ne) ∙ omega arith

rest_out : (h set : ℕ) → has_hart set h ≡ true → has_hart (rest h set) h ≡ false
rest_out h set is = ap (λ b. eqb b 1) (rest_itself h set is)

rest_is : (h set : ℕ) → has_hart set h ≡ true → rest h set ≡ set - 2 ^ h
rest_is h set is =
    let whole : rest h set + 2 ^ h ≡ set = same_from_bits (rest h set + 2 ^ h) set bits in
    omega arith
  where
    bits : (k : ℕ) → bit_at (rest h set + 2 ^ h) k ≡ bit_at set k
    bits k = elim (cases_eq k h) [
      | inl same ↦
          ap (bit_at (rest h set + 2 ^ h)) same ∙ sum_itself (rest h set) h (rest_out h set is) ∙ sym (bit_in set h is) ∙ ap (bit_at set) (sym same)
      | inr ne ↦ sum_other (rest h set) h k (rest_out h set is) ne ∙ rest_other h set k ne
    ]

pub without_hart-itself : (h set : ℕ) → has_hart (without_hart h set) h ≡ false
without_hart-itself h set =
    cond_both (has_hart set h) (set - 2 ^ h) set (λ n. has_hart n h ≡ false)
    (λ is. ap (λ n. has_hart n h) (sym (rest_is h set is)) ∙ rest_out h set is) (λ is. is)

pub without_hart-other : (h set k : ℕ) → k ≢ h → has_hart (without_hart h set) k ≡ has_hart set k
without_hart-other h set k ne =
    cond_both (has_hart set h) (set - 2 ^ h) set (λ n. has_hart n k ≡ has_hart set k)
    (λ is. ap (λ n. has_hart n k) (sym (rest_is h set is)) ∙ ap (λ b. eqb b 1) (rest_other h set k ne)) (λ is. refl)

-- what is in a set without a hart is another one, and is in the set
pub without_hart-has : (h set k : ℕ) → has_hart (without_hart h set) k ≡ true → (k ≢ h) × (has_hart set k ≡ true)
without_hart-has h set k is = elim (cases_eq k h) [
  | inl same ↦
      let no = without_hart-itself h set in
      let yes = ap (λ j. has_hart (without_hart h set) j) (sym same) ∙ is in
      absurd cc
  | inr ne ↦ (ne, sym (without_hart-other h set k ne) ∙ is)
]

-- some hart is in each set that isn't 0
some_within : (n set : ℕ) → set ≤ n → set ≢ 0 → (h : ℕ) × (has_hart set h ≡ true)
some_within zero set few some = absurd (omega arith)
some_within (suc n) set few some = elim (cases_eq (bit_at set 0) 1) [
  | inl one ↦ (0, ap (λ b. eqb b 1) one)
  | inr none ↦
      let lowest = bit_at_lowest set in
      let low = bit_at-lt set 0 in
      let found = some_within n (set / 2) (omega arith) (omega arith) in
      (suc found.0, ap (λ b. eqb b 1) (bit_at-suc set found.0) ∙ found.1)
]

pub some_hart : (set : ℕ) → set ≢ 0 → (h : ℕ) × (has_hart set h ≡ true)
some_hart set some = some_within set set (omega arith) some

-- a bit is that of another set where its hart is
same_bit : (a b k : ℕ) → has_hart a k ≡ has_hart b k → bit_at a k ≡ bit_at b k
same_bit a b k same = go (has_hart a k) refl
  where
    go : (x : Bool) → has_hart a k ≡ x → bit_at a k ≡ bit_at b k
    go true is = bit_in a k is ∙ sym (bit_in b k (sym same ∙ is))
    go false is = bit_out a k is ∙ sym (bit_out b k (sym same ∙ is))

-- `set | 1 << h` and `set & !(1 << h)`
set_bit : (set h k : ℕ) → h < 8 → bit_at (bit_or set (1 * 2 ^ h % 2 ^ 8)) k ≡ bit_at (with_hart h set) k
set_bit set h k low = elim (cases_eq k h) [
  | inl same ↦
      ap (bit_at (bit_or set (1 * 2 ^ h % 2 ^ 8))) same ∙ bit_at_set_same w8 set h low
      ∙ sym (ap (bit_at (with_hart h set)) same ∙ bit_in (with_hart h set) h (with_hart-itself h set))
  | inr ne ↦ bit_at_set_other w8 set h low k ne ∙ sym (same_bit (with_hart h set) set k (with_hart-other h set k ne))
]

pub with_hart-or : (set h : ℕ) → h < 8 → bit_or set (1 * 2 ^ h % 2 ^ 8) ≡ with_hart h set
with_hart-or set h low = same_from_bits _ _ (λ k. set_bit set h k low)

clear_bit : (set h k : ℕ) → h < 8 → set < 2 ^ 8 → bit_at (bit_and set (bit_not w8 (1 * 2 ^ h % 2 ^ 8))) k ≡ bit_at (without_hart h set) k
clear_bit set h k low fits = elim (cases_lt k 8) [
  | inl within ↦ elim (cases_eq k h) [
    | inl same ↦
        ap (bit_at (bit_and set (bit_not w8 (1 * 2 ^ h % 2 ^ 8)))) same ∙ bit_at_clear_same w8 set h low
        ∙ sym (ap (bit_at (without_hart h set)) same ∙ bit_out (without_hart h set) h (without_hart-itself h set))
    | inr ne ↦ bit_at_clear_other w8 set h low k within ne ∙ sym (same_bit (without_hart h set) set k (without_hart-other h set k ne))
  ]
  | inr past ↦
      let none = bit_at_above set 8 k fits past in
      let ne : k ≢ h = omega arith in
      bit_at_and set (bit_not w8 (1 * 2 ^ h % 2 ^ 8)) k ∙ ap (λ b. min b (bit_at (bit_not w8 (1 * 2 ^ h % 2 ^ 8)) k)) none
      ∙ min_none (bit_at (bit_not w8 (1 * 2 ^ h % 2 ^ 8)) k)
      ∙ sym (same_bit (without_hart h set) set k (without_hart-other h set k ne) ∙ none)
]

pub without_hart-and : (set h : ℕ) → h < 8 → set < 2 ^ 8 → bit_and set (bit_not w8 (1 * 2 ^ h % 2 ^ 8)) ≡ without_hart h set
without_hart-and set h low fits = same_from_bits _ _ (λ k. clear_bit set h k low fits)
