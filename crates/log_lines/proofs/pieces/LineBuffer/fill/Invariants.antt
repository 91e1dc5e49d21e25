use Rattle.std.proofs.Common.{◌≡◌, ◌≤◌, ◌*◌, take, vec_len}
use Rattle.std.specs.Vec.{vec_capacity}
use Rattle.step_log.specs.Grammar.{log_text}
use Rattle.log_lines.proofs.pieces.LineBuffer.fill.Given as goal

abbrev pub invariant-loop-entry : goal.invariant-loop-entry
invariant-loop-entry l =
    (l.self.bytes.items ≡ log_text (take l.entry-index l.log)) × (vec_len l.self.bytes ≤ 40 * l.entry-index)
    × (80000 ≤ vec_capacity l.self.bytes)
