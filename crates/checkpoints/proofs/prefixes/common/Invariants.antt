use Rattle.std.proofs.Common.{◌≡◌, ◌≤◌, ◌-◌, length, take}
use Rattle.checkpoints.proofs.prefixes.common.Given as goal

-- the entries so far are the same
abbrev pub invariant-loop-count : goal.invariant-loop-count
invariant-loop-count l = record {
  same : take l.count l.log ≡ take l.count l.other;
  log : l.count ≤ length l.log;
  other : l.count ≤ length l.other;
}

abbrev pub decreases-loop-count : goal.decreases-loop-count
decreases-loop-count l = length l.log - l.count
