use Rattle.std.proofs.Common.{◌≡◌, replicate, None}
use Rattle.rv_asm.proofs.labels.unbound_labels.Given as goal

abbrev pub invariant-loop : goal.invariant-loop
invariant-loop l = l.labels.items ≡ replicate l.counter None
