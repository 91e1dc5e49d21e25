use Rattle.std.proofs.Common.{◌≡◌, Some, drop}
use Rattle.event_facts.specs.Reservations.{lost_facts}
use Rattle.event_facts.proofs.kept_reservations.first_lost.Given as goal

-- what comes of the writes that are left is what comes of all
abbrev pub invariant-loop-write : goal.invariant-loop-write
invariant-loop-write l = lost_facts l.hart.0 (Some l.start) (drop l.write-index l.writes) ≡ lost_facts l.hart.0 (Some l.start) l.writes
