use Rattle.std.proofs.Common.{◌≡◌, replicate}
use Rattle.block_view.specs.Counters.{nothing_done}
use Rattle.block_view.proofs.counter.Counter.empty.Given as goal

abbrev pub invariant-loop : goal.invariant-loop
invariant-loop l = l.counts.items ≡ replicate l.counter nothing_done
