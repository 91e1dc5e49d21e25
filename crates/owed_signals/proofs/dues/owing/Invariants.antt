-- So far the set has those before this one.
use Rattle.std.proofs.Common.{◌≡◌}
use Rattle.mach_types.specs.Kernel.Barriers.{harts_that}
use Rattle.owed_signals.specs.Dues.{owes_with}
use Rattle.owed_signals.proofs.dues.owing.Given as goal

abbrev pub invariant-loop-hart : goal.invariant-loop-hart
invariant-loop-hart l = l.harts ≡ harts_that (owes_with l.parts l.owed l.with_stores) l.hart
