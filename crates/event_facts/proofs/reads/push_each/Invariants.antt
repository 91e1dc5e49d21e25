use Rattle.std.proofs.Common.{◌≡◌, ◌++◌, map}
use Rattle.std.specs.List.{range_with_len}
use Rattle.block_model.specs.Here.{view}
use Rattle.event_facts.specs.Facts.{byte_fact}
use Rattle.event_facts.specs.Telling.{here_on}
use Rattle.event_facts.specs.Tied.{kept_source}
use Rattle.event_facts.proofs.reads.push_each.Given as goal

-- the bytes so far
abbrev pub invariant-loop-k : goal.invariant-loop-k
invariant-loop-k l =
    l.facts.items ≡ l.initial.facts.items ++ map (byte_fact (view (here_on l.machine l.hart.0)) (kept_source l.lines l.hart.0) l.at) (range_with_len 0 l.k)
