use Rattle.std.proofs.Common.{◌≡◌, find}
use Rattle.mach_types.specs.Kernel.Signals.{all_signals}
use Rattle.signals.proofs.Lowest.{lowest_from}
use Rattle.signals.specs.Coming.{can_come}
use Rattle.signals.proofs.sets.lowest_deliverable.Given as goal

-- none of those before can be delivered
abbrev pub invariant-loop-sig : goal.invariant-loop-sig
invariant-loop-sig l = find (can_come l.pending l.mask) all_signals ≡ lowest_from l.pending l.mask l.sig
