-- the counts so far are kept, no more than one for each
use Rattle.std.proofs.Common.{◌≡◌, ◌≤◌, length}
use Rattle.drawn_machine.specs.Waits.{no_waits}
use Rattle.explored_runs.specs.Waits.{with_counts}
use Rattle.explored_runs.proofs.WaitCounts.{begun}
use Rattle.explored_runs.proofs.waits.Waits.of.Given as goal

abbrev pub invariant-loop-wait : goal.invariant-loop-wait
invariant-loop-wait l = record {
  kept : with_counts no_waits l.kept.items ≡ begun l.counts l.wait;
  few : length l.kept.items ≤ l.wait;
}
