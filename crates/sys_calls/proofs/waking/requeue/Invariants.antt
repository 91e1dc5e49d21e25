-- Of the threads that wait some were woken or wait at the other address, and what is left to go goes behind them.
use Rattle.sys_calls.proofs.Common.{Here, HoldsTables, IsOnward}
use Rattle.mach_types.specs.Kernel.Futexes.{hears}
use Rattle.sys_calls.specs.Woken.{AreHeard}
use Rattle.sys_calls.proofs.FutexWakes.{IsWaking}
use Rattle.sys_calls.proofs.waking.requeue.Given as goal

abbrev pub invariant-loop-count : goal.invariant-loop-count
invariant-loop-count l = record {
  onward : IsOnward l.fn.kernel l.kernel;
  waking : (h : Here) → HoldsTables l.fn.kernel h.kernel → AreHeard h l.mask l.fn.kernel
      → IsWaking h l.fn.kernel l.kernel l.most l.more l.at l.to (λ t. hears l.mask (h.file t)) l.count;
}
