use Rattle.std.proofs.Common.{◌≡◌, ◌≤◌}
use Rattle.explored_runs.specs.Tallies.{harts_in}
use Rattle.explored_runs.proofs.tallies.harts_of.Given as goal

abbrev pub invariant-loop-hart : goal.invariant-loop-hart
invariant-loop-hart l = record {
  so_far : l.count ≡ harts_in l.log l.hart;
  few : l.count ≤ l.hart;
}
