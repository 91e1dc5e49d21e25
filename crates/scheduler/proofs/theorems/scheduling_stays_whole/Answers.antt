use Rattle.scheduler.proofs.StaysWhole.{start_scheduling-holds, with_thread-holds, forget-holds, with_ready-holds, without_ready-holds, with_affinity-holds, affinity_of-small}
use Rattle.scheduler.proofs.theorems.scheduling_stays_whole.Goals as goal

pub returns : goal.returns
returns c = record {
  start = start_scheduling-holds;
  add = with_thread-holds;
  remove = forget-holds;
  push = with_ready-holds;
  take = without_ready-holds;
  set_affinity = with_affinity-holds;
  affinity = affinity_of-small;
}
