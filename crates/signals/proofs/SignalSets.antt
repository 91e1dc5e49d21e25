-- Sets of signals have the signals that their words say.
use Rattle.std.proofs.Common.{◌≡◌, ℕ, ◌-◌, ◌<◌, ◌≤◌, ◌^◌, true, false, not, ◌&&◌, ◌||◌, eqb, min, max, ap, ◌∙◌, arith, w64}
use Rattle.std.specs.Int.{bit_at}
use Rattle.std.proofs.lemmas.Bool.Decides.{nat_tests}
use Rattle.std.proofs.lemmas.Nat.Bits.{bit_at-lt, bit_at-pow_other, bit_at-pow_same, bit_at_and, bit_at_not, bit_at_or}
use Rattle.mach_types.specs.Kernel.Signals.{has_signal, joined, less, only}

either : (m n : ℕ) → m < 2 → n < 2 → eqb (max m n) 1 ≡ (eqb m 1 || eqb n 1)
either m n small few = grind (arith, nat_tests)

both_not : (m n : ℕ) → m < 2 → n < 2 → eqb (min m (1 - n)) 1 ≡ (eqb m 1 && not (eqb n 1))
both_not m n small few = grind (arith, nat_tests)

pub joined-has : (a b s : ℕ) → has_signal (joined a b) s ≡ (has_signal a s || has_signal b s)
joined-has a b s =
    ap (λ n. eqb n 1) (bit_at_or a b (s - 1)) ∙ either (bit_at a (s - 1)) (bit_at b (s - 1)) (bit_at-lt a (s - 1)) (bit_at-lt b (s - 1))

pub less-has : (a b s : ℕ) → b < 2 ^ 64 → 1 ≤ s → s ≤ 64 → has_signal (less a b) s ≡ (has_signal a s && not (has_signal b s))
less-has a b s small from below =
    ap (λ n. eqb n 1) (bit_at_and a (2 ^ 64 - 1 - b) (s - 1) ∙ ap (min (bit_at a (s - 1))) (bit_at_not w64 b (s - 1) small (omega arith)))
    ∙ both_not (bit_at a (s - 1)) (bit_at b (s - 1)) (bit_at-lt a (s - 1)) (bit_at-lt b (s - 1))

pub only-has_it : (s : ℕ) → has_signal (only s) s ≡ true
only-has_it s = ap (λ n. eqb n 1) (bit_at-pow_same (s - 1))

pub only-has_no_other : (s u : ℕ) → 1 ≤ s → 1 ≤ u → (u ≡ s → ⊥) → has_signal (only s) u ≡ false
only-has_no_other s u from at_least other = ap (λ n. eqb n 1) (bit_at-pow_other (s - 1) (u - 1) (λ e. other (omega arith)))

-- what sets have
pub ruleset sets = (joined-has, less-has, only-has_it, only-has_no_other)
