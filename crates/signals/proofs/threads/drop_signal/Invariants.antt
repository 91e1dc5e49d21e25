use Rattle.std.proofs.Common.{◌≡◌, ◌++◌, drop, map, take}
use Rattle.mach_types.specs.Kernel.Signals.{without_signal}
use Rattle.signals.proofs.threads.drop_signal.Given as goal

-- the entries before lack the signal
abbrev pub invariant-loop-entry : goal.invariant-loop-entry
invariant-loop-entry l =
    l.threads ≡ map (without_signal l.sig) (take l.entry-index l.fn.threads) ++ drop l.entry-index l.fn.threads
