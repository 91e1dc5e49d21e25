-- Sets of harts joined, and the targets among those that a command is about.
use Rattle.std.proofs.Common.{◌≡◌, ℕ, ℤ, zero, suc, ◌+◌, ◌^◌, ◌<◌, Bool, true, false, not, ◌&&◌, ◌||◌, cond, eqb, ltb, refl, sym, ap, ◌∙◌, bit_or, arith}
use Rattle.std.specs.Prelude.{max}
use Rattle.std.specs.Int.{bit_at}
use Rattle.std.proofs.lemmas.Bool.Decides.{nat_tests}
use Rattle.std.proofs.lemmas.Nat.Bits.{bit_at-lt, bit_at-zero, bit_at_or}
use Rattle.mach_types.specs.Kernel.Barriers.{harts_that, is_about, is_target, targets}
use Rattle.mach_types.specs.Kernel.Scheduling.{has_hart}
use Rattle.mach_types.proofs.Laws.{has_hart-harts_that}

-- a hart is in two sets joined where it is in one of them
one_of_bits : (m n : ℕ) → m < 2 → n < 2 → eqb (max m n) 1 ≡ eqb m 1 || eqb n 1
one_of_bits zero zero left right = refl
one_of_bits zero (suc zero) left right = refl
one_of_bits (suc zero) zero left right = refl
one_of_bits (suc zero) (suc zero) left right = refl
one_of_bits (suc (suc m)) n left right = let no : ⊥ = omega arith in absurd no
one_of_bits zero (suc (suc n)) left right = let no : ⊥ = omega arith in absurd no
one_of_bits (suc zero) (suc (suc n)) left right = let no : ⊥ = omega arith in absurd no

pub has_hart-joined : (a b h : ℕ) → has_hart (bit_or a b) h ≡ has_hart a h || has_hart b h
has_hart-joined a b h =
    ap (λ n. eqb n 1) (bit_at_or a b h) ∙ one_of_bits (bit_at a h) (bit_at b h) (bit_at-lt a h) (bit_at-lt b h)

pub has_hart-none : (h : ℕ) → has_hart 0 h ≡ false
has_hart-none h = ap (λ n. eqb n 1) (bit_at-zero h)

pub has_hart-if : (is : Bool) (set h : ℕ) → has_hart (cond is set 0) h ≡ is && has_hart set h
has_hart-if true set h = refl
has_hart-if false set h = has_hart-none h

-- tests that tell the same of the first so many harts have the same set of these
pub harts_that-same : (one other : ℕ → Bool) (n : ℕ) → ((h : ℕ) → h < n → one h ≡ other h) → harts_that one n ≡ harts_that other n
harts_that-same one other zero same = refl
harts_that-same one other (suc n) same =
    ap (λ m. m + cond (one n) (2 ^ n) 0) (harts_that-same one other n (λ h low. same h (omega arith)))
    ∙ ap (λ b. harts_that other n + cond b (2 ^ n) 0) (same n (omega arith))

within : (a b : Bool) → b ≡ true → a && b ≡ a
within true b is = is
within false b is = refl

-- so the targets are the same where a set holds those of these harts that pass the test
pub targets-same : (test : ℕ → Bool) (set : ℕ) → ((h : ℕ) → has_hart set h ≡ test h) → (flags : ℕ) (cpu : ℤ) (here harts : ℕ)
    → targets flags cpu here set harts ≡ targets flags cpu here (harts_that test harts) harts
targets-same test set holds flags cpu here harts =
    harts_that-same (is_target flags cpu here set) (is_target flags cpu here (harts_that test harts)) harts
    (λ h low. ap (λ b. b && not (eqb h here) && is_about flags cpu h) (one h low))
  where
    one : (h : ℕ) → h < harts → has_hart set h ≡ has_hart (harts_that test harts) h
    one h low =
        let below : ltb h harts ≡ true = grind (arith, nat_tests) in
        holds h ∙ sym (has_hart-harts_that test harts h ∙ within (test h) (ltb h harts) below)
