use Rattle.kernel_threads.proofs.SavedThere.{saved_of-not_running, saved_of-running, saved_of-not_live}
use Rattle.kernel_threads.proofs.theorems.thread_is_saved_while_it_does_not_run.Goals as goal

pub returns : goal.returns
returns c = record {
  not_running = saved_of-not_running;
  running = saved_of-running;
  not_live = saved_of-not_live;
}
