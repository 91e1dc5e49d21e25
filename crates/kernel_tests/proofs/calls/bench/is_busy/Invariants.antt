use Rattle.std.proofs.Common.{◌≡◌, ◌<◌, Some, ℕ}
use Rattle.mach_types.specs.Kernel.Threads.{state_of}
use Rattle.mach_types.specs.declared.threads.ThreadState.TheVariants.{Running}
use Rattle.kernel_tests.proofs.calls.bench.is_busy.Given as goal

-- no thread of a number so far runs on the hart
abbrev pub invariant-loop-number : goal.invariant-loop-number
invariant-loop-number g l = (t : ℕ) → t < l.number → state_of t l.threads.threads ≡ Some (Running l.hart) → ⊥
