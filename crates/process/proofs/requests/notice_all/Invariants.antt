-- So far the harts before this one have noticed.
use Rattle.process.proofs.Common.{◌≡◌, ℕ, eqb, slice_get, option_map, noticed_unless}
use Rattle.process.proofs.EachHart.{changed_before}
use Rattle.process.proofs.requests.notice_all.Given as goal

abbrev pub invariant-loop-k : goal.invariant-loop-k
invariant-loop-k l = (j : ℕ) → slice_get l.harts j ≡ option_map (changed_before (λ i. noticed_unless (eqb i l.hart.0) l.hart.0) l.k j) (slice_get l.fn.harts j)
