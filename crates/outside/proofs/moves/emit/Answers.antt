use Rattle.outside.proofs.Emitting.{emitting-more}
use Rattle.outside.proofs.moves.emit.Goals as goal

pub loop-done-preserved : goal.loop-done-preserved
loop-done-preserved g c =
    emitting-more _ _ _ _ _ _ _ _ _ c.loop-done.invariant c.in_ok-done.ensures.within c.in_ok-done.ensures.appended c.in_ok-done.ensures.counts
