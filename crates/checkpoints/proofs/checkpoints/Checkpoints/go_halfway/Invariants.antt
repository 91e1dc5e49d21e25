use Rattle.std.proofs.Common.{◌≡◌, ◌≤◌, length, take}
use Rattle.same_places.specs.Replayed.{StandAfter}
use Rattle.checkpoints.specs.Programs.{setting_for}
use Rattle.checkpoints.specs.Standing.{AreStanding}
use Rattle.checkpoints.proofs.checkpoints.Checkpoints.go_halfway.Given as goal

-- the parts stand at the last checkpoint
abbrev pub invariant-loop : goal.invariant-loop
invariant-loop l = record {
  log : l.self.log.items ≡ l.fn.self.log.items;
  within : l.at ≤ length l.fn.self.log.items;
  stands : StandAfter (setting_for l.program) (take l.at l.fn.self.log.items) l.parts;
  standing : AreStanding (setting_for l.program) l.self;
}
