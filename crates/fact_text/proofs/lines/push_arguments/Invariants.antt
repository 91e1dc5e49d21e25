use Rattle.std.proofs.Common.{◌≡◌, ◌++◌, take}
use Rattle.fact_text.specs.Lines.{arguments_text}
use Rattle.fact_text.proofs.lines.push_arguments.Given as goal

-- the arguments so far
abbrev pub invariant-loop-argument : goal.invariant-loop-argument
invariant-loop-argument l = l.text.items ≡ l.initial.text.items ++ arguments_text (take l.argument-index l.arguments)
