-- The bytes of a frame that was just taken.
use Rattle.std.proofs.Common.{◌≡◌, ℕ, zero, suc, length, replicate, get_or, refl}
use Rattle.std.proofs.lemmas.List.{length-replicate}
use Rattle.frame_pool.specs.Pool.{fresh}

pub length-fresh : length fresh ≡ 4096
unfolding fresh
length-fresh = length-replicate {A = ℕ} 4096 0

zero-at : (n k : ℕ) → let none : ℕ = 0 in get_or (replicate n none) k none ≡ none
zero-at zero k = refl
zero-at (suc n) zero = refl
zero-at (suc n) (suc k) = zero-at n k

pub fresh-at : (k : ℕ) → get_or fresh k 0 ≡ 0
unfolding fresh
fresh-at k = zero-at 4096 k
