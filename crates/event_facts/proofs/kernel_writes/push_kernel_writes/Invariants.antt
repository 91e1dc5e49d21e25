use Rattle.std.proofs.Common.{◌≡◌, ◌++◌, map, take}
use Rattle.event_facts.specs.Facts.{kernel_fact}
use Rattle.event_facts.proofs.kernel_writes.push_kernel_writes.Given as goal

-- the writes so far
abbrev pub invariant-loop-write : goal.invariant-loop-write
invariant-loop-write l = l.facts.items ≡ l.initial.facts.items ++ map (kernel_fact l.line) (take l.write-index l.writes)
