use Rattle.std.proofs.Common.{◌≡◌, vec_len}
use Rattle.log_lines.proofs.pieces.LineBuffer.new.Given as goal

abbrev pub invariant-loop : goal.invariant-loop
invariant-loop l = vec_len l.fronts ≡ l.counter
