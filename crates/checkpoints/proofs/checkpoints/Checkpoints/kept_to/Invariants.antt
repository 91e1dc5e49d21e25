use Rattle.std.proofs.Common.{◌≤◌, ◌-◌}
use Rattle.checkpoints.specs.Standing.{AreWithin}
use Rattle.checkpoints.proofs.checkpoints.Checkpoints.kept_to.Given as goal

-- the checkpoints so far are kept
abbrev pub invariant-loop-kept : goal.invariant-loop-kept
invariant-loop-kept l = record {
  used : l.kept ≤ l.self.used;
  each : AreWithin l.self.slots.items l.kept l.same;
}

abbrev pub decreases-loop-kept : goal.decreases-loop-kept
decreases-loop-kept l = l.self.used - l.kept
