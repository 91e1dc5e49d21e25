use Rattle.std.proofs.Common.{◌≡◌, ◌++◌}
use Rattle.block_view.specs.Acts.{acts_of}
use Rattle.run_texts.specs.Summary.{hart_lines}
use Rattle.shown_runs.proofs.summary.push_hart_lines.Given as goal

abbrev pub invariant-loop-hart : goal.invariant-loop-hart
invariant-loop-hart l = l.text.items ≡ l.initial.text.items ++ hart_lines (acts_of l.machine.setting l.machine.log) l.hart
