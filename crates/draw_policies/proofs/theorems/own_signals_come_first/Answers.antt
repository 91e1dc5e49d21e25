use Rattle.draw_policies.proofs.OwnSignals.{signal-kept, signal-meant, signal-next}
use Rattle.draw_policies.proofs.theorems.own_signals_come_first.Goals as goal

pub returns : goal.returns
returns c = record { next = signal-next; kept = signal-kept; begins = signal-meant }
