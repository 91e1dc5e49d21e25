-- One write more.
use Rattle.process.proofs.ReservationLosses.{one_more_write}
use Rattle.process.proofs.reservations.lose_all.Goals as goal

pub loop-write-preserved : goal.loop-write-preserved
loop-write-preserved c = one_more_write c.args.writes.now c.loop-write.write-index _ c.args.state.now c.loop-write.state c.lose_write.new.state c.loop-write-test.true c.loop-write.invariant c.lose_write.ensures
