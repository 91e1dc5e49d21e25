use Rattle.drawn_runs.proofs.OwnSignals.{own-signal}
use Rattle.drawn_runs.proofs.theorems.own_signals_come_at_once.Goals as goal

pub returns : goal.returns
returns c = own-signal
