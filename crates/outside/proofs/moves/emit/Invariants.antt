use Rattle.std.proofs.Common.{length, ◌-◌}
use Rattle.outside.proofs.Emitting.{IsEmitting}
use Rattle.outside.proofs.moves.emit.Given as goal

abbrev pub invariant-loop-done : goal.invariant-loop-done
invariant-loop-done g l = IsEmitting (g.K.Sink.held l.fn.sink) (g.K.Sink.held l.sink) (g.K.Sink.faults l.fn.sink) (g.K.Sink.faults l.sink) l.bytes l.done

abbrev pub decreases-loop-done : goal.decreases-loop-done
decreases-loop-done g l = length l.bytes - l.done
