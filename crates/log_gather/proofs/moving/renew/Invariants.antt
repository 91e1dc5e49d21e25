use Rattle.log_gather.proofs.RenewedMarks.{AreRenewed}
use Rattle.log_gather.proofs.moving.renew.Given as goal

-- the marks so far are renewed
abbrev pub invariant-loop-mark : goal.invariant-loop-mark
invariant-loop-mark l = AreRenewed l.initial.details l.initial.span l.first l.details l.span l.mark-index l.number
