use Rattle.std.proofs.Common.{◌≡◌, drop, find}
use Rattle.block_view.specs.Counters.{is_hung}
use Rattle.block_view.proofs.counter.Counter.hart_of_hung.Given as goal

-- none of those before is the thread's
abbrev pub invariant-loop-hung : goal.invariant-loop-hung
invariant-loop-hung l = find (is_hung l.tid) l.self.hanging.items ≡ find (is_hung l.tid) (drop l.hung-index l.self.hanging.items)
