-- the place that is left, among the counts that are left
use Rattle.std.proofs.Common.{◌≡◌, ◌<◌, drop}
use Rattle.std.specs.Prelude.{sum}
use Rattle.explored_runs.specs.Deciles.{number_at}
use Rattle.explored_runs.proofs.deciles.number_at.Given as goal

abbrev pub invariant-loop-number : goal.invariant-loop-number
invariant-loop-number l = record {
  there : number_at l.number l.left (drop l.number l.counts) ≡ number_at 0 l.place l.counts;
  below : l.left < sum (drop l.number l.counts);
}
