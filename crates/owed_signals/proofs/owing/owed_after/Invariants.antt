-- So far the set has those before this one that owe a signal.
use Rattle.std.proofs.Common.{◌≡◌}
use Rattle.mach_types.specs.Kernel.Barriers.{harts_that}
use Rattle.owed_signals.specs.Owing.{owes_in}
use Rattle.owed_signals.proofs.owing.owed_after.Given as goal

abbrev pub invariant-loop-hart : goal.invariant-loop-hart
invariant-loop-hart l = l.owed ≡ harts_that (owes_in l.signals l.parts l.before l.of.0 l.choice l.trapped) l.hart
