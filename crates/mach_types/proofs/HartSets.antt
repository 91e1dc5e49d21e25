-- Sets of harts: those that pass a test are in the set of those that do, and no others.
use Rattle.std.proofs.Common.{◌≡◌, ◌≢◌, ℕ, zero, suc, ◌+◌, ◌-◌, ◌*◌, ◌^◌, ◌<◌, ◌≤◌, Bool, true, false, ◌&&◌, cond, eqb, ltb, inl, inr, refl, sym, ap, ◌∙◌, arith}
use Rattle.std.specs.Int.{bit_at}
use Rattle.std.proofs.Math.Nat.{pow-suc}
use Rattle.std.proofs.lemmas.Bool.Decides.{eqb_tells, leb_tells, nat_tests}
use Rattle.std.proofs.lemmas.Nat.Bits.{bit_at-zero, bit_at_above, bit_at_cat_high, bit_at_cat_low}
use Rattle.mach_types.specs.Kernel.Barriers.{harts_that}
use Rattle.mach_types.specs.Kernel.Scheduling.{has_hart}

-- a set of so many harts has none past them
pub has_hart-past : (set n h : ℕ) → set < 2 ^ n → n ≤ h → has_hart set h ≡ false
has_hart-past set n h small past = ap (λ b. eqb b 1) (bit_at_above set n h small past)

pub has_hart-within : (set n h : ℕ) → set < 2 ^ n → has_hart set h ≡ true → h < n
has_hart-within set n h small has =
    elim (leb_tells n h) [
      | inl past ↦ let no = has_hart-past set n h small past.1 in absurd (true_is_false (sym has ∙ no))
      | inr within ↦ within.1
    ]
  where
    true_is_false : true ≡ false → ⊥
    true_is_false e = cc

-- the set of those of the first so many harts that pass a test is one of so many harts
pub harts_that-fits : (test : ℕ → Bool) (n : ℕ) → harts_that test n < 2 ^ n
harts_that-fits test zero = omega arith
harts_that-fits test (suc n) =
    let rest = harts_that-fits test n in
    let power = pow-suc 2 n in
    elim (test n) as (λ b. harts_that test n + cond b (2 ^ n) 0 < 2 ^ suc n) [ true ↦ omega arith | false ↦ omega arith ]

-- one hart more
added : (set n h : ℕ) → set < 2 ^ n → h ≢ n → has_hart (set + 2 ^ n) h ≡ has_hart set h
added set n h small other =
    let sum : set + 2 ^ n ≡ 1 * 2 ^ n + set = omega arith in
    let power = pow-suc 2 n in
    elim (leb_tells n h) [
      | inl past ↦ has_hart-past (set + 2 ^ n) (suc n) h (omega arith) (omega (arith, past.1)) ∙ sym (has_hart-past set n h small past.1)
      | inr below ↦ ap (λ m. has_hart m h) sum ∙ ap (λ b. eqb b 1) (bit_at_cat_low 1 n set h below.1)
    ]

added_itself : (set n h : ℕ) → set < 2 ^ n → h ≡ n → has_hart (set + 2 ^ n) h ≡ true
added_itself set n h small same =
    let sum : set + 2 ^ n ≡ 1 * 2 ^ n + set = omega arith in
    let first : h - n ≡ 0 = omega arith in
    ap (λ m. has_hart m h) sum ∙ ap (λ b. eqb b 1) (bit_at_cat_high 1 n set h small (omega arith) ∙ ap (bit_at 1) first)

more : (set n h : ℕ) (b : Bool) → set < 2 ^ n → has_hart (set + cond b (2 ^ n) 0) h ≡ cond (eqb h n) b (has_hart set h)
more set n h true small =
    elim (eqb_tells h n) [
      | inl same ↦ added_itself set n h small same.1 ∙ sym (ap (λ b. cond b true (has_hart set h)) same.0)
      | inr other ↦ added set n h small other.1 ∙ sym (ap (λ b. cond b true (has_hart set h)) other.0)
    ]
more set n h false small =
    let nothing : set + 0 ≡ set = omega arith in
    ap (λ m. has_hart m h) nothing
    ∙ elim (eqb_tells h n) [
      | inl same ↦ has_hart-past set n h small (omega (arith, same.1)) ∙ sym (ap (λ b. cond b false (has_hart set h)) same.0)
      | inr other ↦ sym (ap (λ b. cond b false (has_hart set h)) other.0)
    ]

-- a hart is in the set where it is one of the first so many, and passes the test
and_true : (a b : Bool) → b ≡ true → a && b ≡ a
and_true true b e = e
and_true false b e = refl

and_false : (a : Bool) → false ≡ a && false
and_false true = refl
and_false false = refl

pub has_hart-harts_that : (test : ℕ → Bool) (n h : ℕ) → has_hart (harts_that test n) h ≡ test h && ltb h n
has_hart-harts_that test zero h =
    let none : ltb h 0 ≡ false = grind (arith, nat_tests) in
    ap (λ b. eqb b 1) (bit_at-zero h) ∙ and_false (test h) ∙ ap (λ b. test h && b) (sym none)
has_hart-harts_that test (suc n) h =
    let rest = has_hart-harts_that test n h in
    more (harts_that test n) n h (test n) (harts_that-fits test n)
    ∙ elim (eqb_tells h n) [
      | inl same ↦
          let within : ltb h (suc n) ≡ true = grind (arith, nat_tests, same.1) in
          ap (λ b. cond b (test n) (has_hart (harts_that test n) h)) same.0 ∙ sym (ap test same.1) ∙ sym (and_true (test h) (ltb h (suc n)) within)
      | inr other ↦
          let as_before : ltb h n ≡ ltb h (suc n) = grind (arith, nat_tests, other.1) in
          ap (λ b. cond b (test n) (has_hart (harts_that test n) h)) other.0 ∙ rest ∙ ap (λ b. test h && b) as_before
    ]
