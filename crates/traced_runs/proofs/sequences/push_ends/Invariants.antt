use Rattle.std.proofs.Common.{◌≡◌, ◌++◌, take}
use Rattle.std.specs.List.{flat_map}
use Rattle.trace_text.specs.Traces.{ends_line}
use Rattle.traced_runs.proofs.sequences.push_ends.Given as goal

-- the lines of the acts so far
abbrev pub invariant-loop-act : goal.invariant-loop-act
invariant-loop-act l = l.text.items ≡ l.initial.text.items ++ flat_map ends_line (take l.act-index l.acts)
