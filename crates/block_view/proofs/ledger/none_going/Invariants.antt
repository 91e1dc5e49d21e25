use Rattle.std.proofs.Common.{◌≡◌, replicate, None}
use Rattle.block_view.proofs.ledger.none_going.Given as goal

abbrev pub invariant-loop : goal.invariant-loop
invariant-loop l = l.going.items ≡ replicate l.counter None
