use Rattle.std.proofs.Common.{◌≡◌}
use Rattle.mach_types.specs.Kernel.Barriers.{harts_that, is_target}
use Rattle.membarrier_cmds.proofs.targets.targets.Given as goal

-- the targets among the harts before
abbrev pub invariant-loop-hart : goal.invariant-loop-hart
invariant-loop-hart l = l.set ≡ harts_that (is_target l.call.flags l.call.cpu l.call.here.0 l.running) l.hart
