-- the sums with what is left are those of all, and each step adds less than 2^32
use Rattle.std.proofs.Common.{◌≡◌, ◌+◌, ◌*◌, ◌^◌, ◌<◌, All, drop, length}
use Rattle.explored_runs.specs.Waits.{with_counts}
use Rattle.explored_runs.proofs.waits.Waits.add_to.Given as goal

abbrev pub invariant-loop-count : goal.invariant-loop-count
invariant-loop-count l = record {
  all : with_counts l.sums (drop l.count-index l.count-items) ≡ with_counts l.initial.sums l.count-items;
  few : All (λ sum. sum < 2 ^ 63 + l.count-index * 2 ^ 32) l.sums;
  size : length l.sums ≡ 256;
}
