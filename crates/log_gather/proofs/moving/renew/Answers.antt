use Rattle.std.proofs.Common.{arith}
use Rattle.log_gather.proofs.RenewedMarks.{none_renewed, renewed_more}
use Rattle.log_gather.proofs.moving.renew.Goals as goal

pub loop-mark-init : goal.loop-mark-init
loop-mark-init c = none_renewed c.args.details.now c.args.span.now c.args.first c.requires.eight c.requires.known c.requires.first

pub loop-mark-preserved : goal.loop-mark-preserved
loop-mark-preserved c =
    renewed_more c.args.details.now c.loop-mark.details c.args.span.now c.loop-mark.span c.args.first c.loop-mark.mark-index c.loop-mark.number
    c.loop-mark.invariant _ (omega (arith, c.loop-mark-test.true, c.loop-mark.auto.span)) _ _ _ c.in_ok-number.ensures
