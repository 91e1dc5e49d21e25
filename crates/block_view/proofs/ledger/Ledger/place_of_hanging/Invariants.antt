use Rattle.std.proofs.Common.{◌≡◌, drop, find}
use Rattle.block_view.specs.Ledgers.{is_of}
use Rattle.block_view.proofs.ledger.Ledger.place_of_hanging.Given as goal

-- none of those before is the thread's
abbrev pub invariant-loop-hanging : goal.invariant-loop-hanging
invariant-loop-hanging l = find (is_of l.tid) l.self.hanging.items ≡ find (is_of l.tid) (drop l.hanging-index l.self.hanging.items)
