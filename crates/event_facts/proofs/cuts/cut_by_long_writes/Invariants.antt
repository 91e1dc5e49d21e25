use Rattle.std.proofs.Common.{◌≡◌, false, take}
use Rattle.std.specs.List.{list_any}
use Rattle.event_facts.specs.Cuts.{cut_by_long}
use Rattle.event_facts.proofs.cuts.cut_by_long_writes.Given as goal

-- none so far
abbrev pub invariant-loop-write : goal.invariant-loop-write
invariant-loop-write l = list_any (cut_by_long l.at l.size) (take l.write-index l.writes) ≡ false
