-- The thread that runs is held, and isn't ready.
use Rattle.sys_calls.proofs.CallerTables.{caller_held, caller_runs, caller_unlisted}
use Rattle.sys_calls.proofs.affinity.leave.Goals as goal

pub leave-requires : goal.leave-requires
leave-requires c = caller_runs c.args.kernel.now c.args.here.0 c.args.tid.0 c.requires

pub push-requires-clause-held : goal.push-requires-clause-held
push-requires-clause-held c = caller_held c.args.kernel.now c.args.here.0 c.args.tid.0 c.requires

pub push-requires-clause-not_ready : goal.push-requires-clause-not_ready
push-requires-clause-not_ready c = caller_unlisted c.args.kernel.now c.args.here.0 c.args.tid.0 c.requires
