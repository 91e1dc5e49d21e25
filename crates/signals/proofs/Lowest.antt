-- The lowest signal that is pending and not masked.
use Rattle.std.proofs.Common.{◌≡◌, ℕ, ◌+◌, ◌-◌, ◌<◌, true, false, cond, List, ◌∷◌, find, Some, None, suc, Option, refl, ap, ◌∙◌, arith}
use Rattle.std.specs.List.{range_with_len}
use Rattle.mach_types.specs.Kernel.Signals.{all_signals}
use Rattle.signals.specs.Coming.{can_come}

-- the signals from one on
pub signals_from : ℕ → List ℕ
signals_from i = range_with_len i (32 - i)

-- the lowest of these that comes
pub lowest_from : ℕ → ℕ → ℕ → Option ℕ
lowest_from pending mask i = find (can_come pending mask) (signals_from i)

pub from_the_first : (pending mask : ℕ) → find (can_come pending mask) all_signals ≡ lowest_from pending mask 1
unfolding all_signals lowest_from signals_from
from_the_first pending mask = refl

one_more : (i : ℕ) → i < 32 → signals_from i ≡ i ∷ signals_from (i + 1)
unfolding signals_from
one_more i h =
    let e : 32 - i ≡ suc (32 - (i + 1)) = omega arith in
    ap (range_with_len i) e

pub found_here : (pending mask i : ℕ) → i < 32 → can_come pending mask i ≡ true → lowest_from pending mask i ≡ Some i
unfolding lowest_from
found_here pending mask i h e =
    ap (find (can_come pending mask)) (one_more i h) ∙ ap (λ b. cond b (Some i) (find (can_come pending mask) (signals_from (i + 1)))) e

pub found_later : (pending mask i : ℕ) → i < 32 → can_come pending mask i ≡ false → lowest_from pending mask i ≡ lowest_from pending mask (i + 1)
unfolding lowest_from
found_later pending mask i h e =
    ap (find (can_come pending mask)) (one_more i h) ∙ ap (λ b. cond b (Some i) (find (can_come pending mask) (signals_from (i + 1)))) e

pub none_left : (pending mask i : ℕ) → i ≡ 32 → lowest_from pending mask i ≡ None
unfolding lowest_from signals_from
none_left pending mask i e = ap (λ n. find (can_come pending mask) (range_with_len n (32 - n))) e
