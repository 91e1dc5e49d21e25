use Rattle.signals.proofs.Returning.{file_is_restored, form_of_call, frame_is_read, mask_is_restored}
use Rattle.signals.proofs.theorems.handler_returns_to_where_it_was.Goals as goal

pub returns : goal.returns
returns c = record {
  form = form_of_call;
  frame = frame_is_read;
  file = file_is_restored;
  mask = mask_is_restored;
}
