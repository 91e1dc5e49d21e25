use Rattle.std.proofs.Common.{◌≡◌, drop}
use Rattle.event_facts.specs.Written.{last_line}
use Rattle.event_facts.proofs.long_writes.last_line.Given as goal

-- what comes of the writes that are left is what comes of all
abbrev pub invariant-loop-write : goal.invariant-loop-write
invariant-loop-write l = last_line (drop l.write-index l.writes) l.at l.line ≡ last_line l.writes l.at 0
