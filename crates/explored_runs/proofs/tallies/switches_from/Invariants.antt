-- those so far and those of what is left are all
use Rattle.std.proofs.Common.{◌≡◌, ◌≤◌, ◌+◌, drop}
use Rattle.explored_runs.specs.Tallies.{switches_from}
use Rattle.explored_runs.proofs.tallies.switches_from.Given as goal

abbrev pub invariant-loop-entry : goal.invariant-loop-entry
invariant-loop-entry l = record {
  all : l.count + switches_from l.last (drop l.entry-index l.log) ≡ switches_from l.fn.hart.0 l.log;
  few : l.count ≤ l.entry-index;
}
