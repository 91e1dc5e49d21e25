use Rattle.std.proofs.Common.{◌≡◌, ◌++◌, drop, map, take}
use Rattle.mach_types.specs.Kernel.Signals.{fault_if}
use Rattle.signals.proofs.threads.post_fault.Given as goal

-- the entries before have the fault where they are the thread's
abbrev pub invariant-loop-entry : goal.invariant-loop-entry
invariant-loop-entry l =
    l.threads ≡ map (fault_if l.tid l.fault) (take l.entry-index l.fn.threads) ++ drop l.entry-index l.fn.threads
