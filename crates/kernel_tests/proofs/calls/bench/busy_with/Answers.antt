-- The thread is the one of its hart.
use Rattle.std.proofs.Common.{ℕ, Option, is_some, sym, ap}
use Rattle.block_model.proofs.Laws.{running_there}
use Rattle.kernel_tests.proofs.calls.bench.busy_with.Goals as goal

pub returns : goal.returns
returns c =
    ap (λ (o : Option ℕ). is_some o)
    (sym (running_there 2 c.args.hart.0 c.args.tid.0 c.args.threads.now.threads c.requires.tables.0 c.requires.tables.1 c.requires.at))
