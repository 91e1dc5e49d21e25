-- So far the hart has lost what the writes before this one wrote.
use Rattle.process.proofs.Common.{◌≡◌, take, lost_by_all}
use Rattle.process.proofs.reservations.lose_all.Given as goal

abbrev pub invariant-loop-write : goal.invariant-loop-write
invariant-loop-write l = l.state ≡ lost_by_all (take l.write-index l.writes) l.fn.state
