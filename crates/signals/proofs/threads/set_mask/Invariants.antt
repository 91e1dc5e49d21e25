use Rattle.std.proofs.Common.{◌≡◌, ◌++◌, drop, map, take}
use Rattle.mach_types.specs.Kernel.Signals.{mask_if}
use Rattle.signals.proofs.threads.set_mask.Given as goal

-- the entries before have the mask where they are the thread's
abbrev pub invariant-loop-entry : goal.invariant-loop-entry
invariant-loop-entry l =
    l.threads ≡ map (mask_if l.tid l.mask) (take l.entry-index l.fn.threads) ++ drop l.entry-index l.fn.threads
