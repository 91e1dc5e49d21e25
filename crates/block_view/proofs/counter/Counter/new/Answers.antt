use Rattle.std.proofs.lemmas.Result.{IfOk-weaker}
use Rattle.block_view.specs.Counters.{kept_counts}
use Rattle.block_view.proofs.CountedLogs.{counted_to_none}
use Rattle.block_view.proofs.counter.Counter.new.Goals as goal

pub returns : goal.returns
returns c m same none =
    IfOk-weaker c.empty.result _ _ (λ counter is. counted_to_none m c.args.harts (kept_counts counter) same none is) c.empty.ensures
