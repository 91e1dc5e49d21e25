-- Nothing is saved of a thread that runs.
use Rattle.sys_calls.proofs.CallerTables.{runs_quiet}
use Rattle.sys_calls.proofs.calling.has_nothing_saved.Goals as goal

pub returns : goal.returns
returns c = runs_quiet c.args.tid.0 c.args.threads.now c.live.ensures.table c.requires
