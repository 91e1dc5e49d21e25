use Rattle.std.proofs.Common.{◌≡◌, ◌++◌, take}
use Rattle.std.specs.List.{flat_map}
use Rattle.fact_text.specs.Lines.{fact_line}
use Rattle.fact_text.proofs.lines.push_facts.Given as goal

-- the lines of the facts so far
abbrev pub invariant-loop-fact : goal.invariant-loop-fact
invariant-loop-fact l = l.text.items ≡ l.initial.text.items ++ flat_map fact_line (take l.fact-index l.facts)
