-- So far the harts before this one have lost what was written.
use Rattle.process.proofs.Common.{◌≡◌, ℕ, nat_eq, slice_get, option_map, lost_unless}
use Rattle.process.proofs.EachHart.{changed_before}
use Rattle.process.proofs.reservations.lose_others.Given as goal

abbrev pub invariant-loop-k : goal.invariant-loop-k
invariant-loop-k l = (j : ℕ) → slice_get l.harts j ≡ option_map (changed_before (λ i. lost_unless (nat_eq i l.hart.0) l.writes) l.k j) (slice_get l.fn.harts j)
