use Rattle.std.proofs.Common.{ap}
use Rattle.signals.proofs.Apart.{fault-own, fault-taken, mask_in, pending_in, posted-own, with_fault-own, with_mask-own, with_thread-own, without_pending-own}
use Rattle.signals.proofs.theorems.thread_has_its_signals.Goals as goal

pub returns : goal.returns
returns c = record {
  mask = with_mask-own;
  post = posted-own;
  post_fault = with_fault-own;
  fault = fault-own;
  take_pending = without_pending-own;
  take_fault = fault-taken;
  add_mask = λ parent t g not_held. ap mask_in (with_thread-own parent t g not_held);
  add_pending = λ parent t g not_held. ap pending_in (with_thread-own parent t g not_held);
}
