use Rattle.block_view.specs.Counters.{HasCounts}
use Rattle.block_view.proofs.counter.Counter.counts.Given as goal

-- those of the harts below the counter are there
abbrev pub invariant-loop-hart : goal.invariant-loop-hart
invariant-loop-hart l = HasCounts l.machine.setting l.machine.log l.hart l.counts.items
