use Rattle.std.proofs.Common.{length, ◌-◌}
use Rattle.log_lines.proofs.Writing.{IsWriting}
use Rattle.log_lines.proofs.pieces.emit_lines.Given as goal

abbrev pub invariant-loop-done : goal.invariant-loop-done
invariant-loop-done g l = IsWriting (g.K.Sink.held l.fn.sink) (g.K.Sink.held l.sink) (g.K.Sink.faults l.fn.sink) (g.K.Sink.faults l.sink) l.log l.done

abbrev pub decreases-loop-done : goal.decreases-loop-done
decreases-loop-done g l = length l.log - l.done
