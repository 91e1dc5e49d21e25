use Rattle.std.proofs.Common.{◌≡◌, drop, find}
use Rattle.mach_types.specs.Kernel.Signals.{is_of}
use Rattle.signals.proofs.threads.entry_of.Given as goal

-- the entry isn't among those before
abbrev pub invariant-loop-entry : goal.invariant-loop-entry
invariant-loop-entry l = find (is_of l.tid) l.threads ≡ find (is_of l.tid) (drop l.entry-index l.threads)
