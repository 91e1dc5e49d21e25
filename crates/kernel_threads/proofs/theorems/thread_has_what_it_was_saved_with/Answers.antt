use Rattle.std.proofs.Common.{refl}
use Rattle.kernel_threads.proofs.SavedAfter.{saved_of-child, saved_of-saved, saved_of-answered, saved_of-emptied, saved_of-forget_same}
use Rattle.kernel_threads.proofs.theorems.thread_has_what_it_was_saved_with.Goals as goal

pub returns : goal.returns
returns c = record {
  start = λ start. refl;
  child = saved_of-child;
  saved = saved_of-saved;
  answered = saved_of-answered;
  runs = saved_of-emptied;
  ended = saved_of-forget_same;
}
