use Rattle.signals.proofs.StaysWhole.{acted-holds, entered-holds, forget-holds, mask-holds, mask_of-is_mask, posted-holds, returned-holds, start_signalling-holds, with_fault-holds, with_thread-holds, without_pending-holds}
use Rattle.signals.proofs.theorems.signalling_stays_whole.Goals as goal

pub returns : goal.returns
returns c = record {
  start = start_signalling-holds;
  add = with_thread-holds;
  remove = forget-holds;
  act = acted-holds;
  mask = mask-holds;
  post = posted-holds;
  post_fault = with_fault-holds;
  take_pending = without_pending-holds;
  push_frame = entered-holds;
  pop_frame = returned-holds;
  mask_of = mask_of-is_mask;
}
