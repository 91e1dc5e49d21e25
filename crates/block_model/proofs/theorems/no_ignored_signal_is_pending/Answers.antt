use Rattle.std.proofs.Common.{arith}
use Rattle.block_model.specs.Deciding.{history}
use Rattle.block_model.specs.History.{kernel}
use Rattle.block_model.proofs.IgnoredSignals.{pending_heeded}
use Rattle.block_model.proofs.IgnoredSignalsInRuns.{heeded_at}
use Rattle.block_model.proofs.theorems.no_ignored_signal_is_pending.Goals as goal

pub returns : goal.returns
returns c = λ s log t signal run from below pending.
    pending_heeded t (kernel s (history s log)).signals (heeded_at s (history s log) run.allowed) signal from (omega arith) pending
