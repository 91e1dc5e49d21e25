use Rattle.std.proofs.Common.{◌≡◌, ◌++◌, drop, map, take}
use Rattle.mach_types.specs.Kernel.Signals.{post_if}
use Rattle.signals.proofs.threads.post.Given as goal

-- the entries before have the signal where they are the thread's
abbrev pub invariant-loop-entry : goal.invariant-loop-entry
invariant-loop-entry l =
    l.threads ≡ map (post_if l.tid l.sig) (take l.entry-index l.fn.threads) ++ drop l.entry-index l.fn.threads
