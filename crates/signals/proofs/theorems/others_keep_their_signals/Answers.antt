use Rattle.std.proofs.Common.{ap}
use Rattle.signals.proofs.Apart.{forget-other, mask_in, pending_in, posted-other, with_fault-other, with_mask-other, with_thread-other, without_pending-other}
use Rattle.signals.proofs.theorems.others_keep_their_signals.Goals as goal

pub returns : goal.returns
returns c = record {
  mask = with_mask-other;
  post = posted-other;
  post_fault = with_fault-other;
  take_pending = without_pending-other;
  add_mask = λ parent t u g other. ap mask_in (with_thread-other parent t u g other);
  add_pending = λ parent t u g other. ap pending_in (with_thread-other parent t u g other);
  remove_mask = λ t u g other. ap mask_in (forget-other t u g other);
  remove_pending = λ t u g other. ap pending_in (forget-other t u g other);
}
