use Rattle.std.proofs.Common.{◌≡◌, ◌++◌, take}
use Rattle.step_log.specs.Grammar.{log_text}
use Rattle.log_lines.proofs.lines.push_lines.Given as goal

abbrev pub invariant-loop-entry : goal.invariant-loop-entry
invariant-loop-entry l = l.text.items ≡ l.initial.text.items ++ log_text (take l.entry-index l.log)
