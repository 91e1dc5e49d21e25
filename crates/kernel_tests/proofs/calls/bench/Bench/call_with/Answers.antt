-- The thread is the one of its hart.
use Rattle.block_model.proofs.Laws.{running_there}
use Rattle.kernel_tests.proofs.calls.bench.Bench.call_with.Goals as goal

pub make_call-requires-clause-runs : goal.make_call-requires-clause-runs
make_call-requires-clause-runs g c =
    let kernel = c.args.self.now.kernel in
    running_there 2 c.hart_of-hart.result.0 c.args.tid kernel.threads.threads kernel.ready c.args.self.now.tables c.hart_of-hart.ensures
