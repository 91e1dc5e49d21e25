-- So far the harts before this one were asked.
use Rattle.process.proofs.Common.{◌≡◌, ℕ, Some, slice_get, option_map, asked_by}
use Rattle.process.proofs.EachHart.{changed_before}
use Rattle.process.proofs.requests.ask_each.Given as goal

abbrev pub invariant-loop-k : goal.invariant-loop-k
invariant-loop-k l = (j : ℕ) → slice_get l.harts j
    ≡ option_map (changed_before (λ i. asked_by i l.hart.0 (Some (record { targets = l.targets; restart = l.restart }))) l.k j) (slice_get l.fn.harts j)
